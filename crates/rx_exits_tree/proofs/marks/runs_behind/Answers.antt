use Rattle.rx_exits_tree.proofs.Shapes.{put_behind}
use Rattle.rx_exits_tree.proofs.marks.runs_behind.Goals as goal

pub returns : goal.returns
returns c = put_behind c.args.held c.args.expr c.pushed.result c.pushed.ensures
