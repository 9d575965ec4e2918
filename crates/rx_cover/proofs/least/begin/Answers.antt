use Rattle.rx_typed.specs.PlainTypes.{plain-Ty, declarations}
use Rattle.rx_cover.specs.PlainCells.{plain-Head}
use Rattle.rx_cover.proofs.LeastLemmas.{begun_if, bounded}
use Rattle.rx_cover.proofs.least.begin.Goals as goal

pub node_of-requires : goal.node_of-requires
node_of-requires c = bounded (declarations c.args.decls.now.items) (plain-Ty c.args.ty.now) (plain-Head c.args.head) c.requires

pub returns : goal.returns
returns c =
    begun_if (declarations c.args.decls.now.items) (plain-Ty c.args.ty.now) (plain-Head c.args.head) c.args.pending.now c.put_back.new.pending c.args.row.now c.push.new.self
    c.in_ok-columns.columns c.len.result c.node_of.result c.put_back.result c.in_ok-columns.ensures c.len.ensures c.node_of.ensures c.in_ok-push.ensures.ok c.put_back.ensures
