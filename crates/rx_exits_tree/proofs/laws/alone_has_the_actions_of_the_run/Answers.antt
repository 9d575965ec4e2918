use Rattle.rx_exits_tree.proofs.Actions.{alone_actions}
use Rattle.rx_exits_tree.proofs.laws.alone_has_the_actions_of_the_run.Goals as goal

pub returns : goal.returns
returns c r b = alone_actions r b
