use Rattle.rx_tree.specs.PlainOf.{plain-Program}
use Rattle.rx_compact_tree.proofs.Recorded.{by_front}
use Rattle.rx_compact_tree.proofs.tree.compact_tree.Goals as goal

pub returns-in-Ok : goal.returns-in-Ok
returns-in-Ok c = by_front (plain-Program c.args.program.now) c.args.function c.in-Ok.front c.typed.result.now c.compacted_by.result c.in-Ok.ensures.front c.typed.ensures.same c.compacted_by.ensures
