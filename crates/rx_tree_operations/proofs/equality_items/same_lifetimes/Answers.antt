use Rattle.rx_tree.specs.Erase.{erase_lifetime}
use Rattle.rx_tree_operations.proofs.Lengths.{mapped_lengths}
use Rattle.rx_tree_operations.proofs.equality_items.same_lifetimes.Goals as goal

pub returns-then-a-b : goal.returns-then-a-b
returns-then-a-b c = mapped_lengths erase_lifetime c.args.a.now c.args.b.now c.if-a-b.true
