use Rattle.rx_tree_operations.proofs.PositionsLemmas.{begins}
use Rattle.rx_tree_operations.proofs.positions.at.Goals as goal

pub loop-number-init : goal.loop-number-init
loop-number-init c = begins c.args.program.now.items c.args.position.now.item c.in-Some.item.now c.as_slice-number-items.result.now c.args.position.now.path c.in-Some.ensures.value c.as_slice-number-items.ensures
