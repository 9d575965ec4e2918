use Rattle.rx_tree.specs.Erase.{erase_field}
use Rattle.rx_tree.specs.PlainOf.{plain-Field}
use Rattle.rx_tree_operations.proofs.Lengths.{mapped_twice_lengths}
use Rattle.rx_tree_operations.proofs.equality_items.same_declared.Goals as goal

pub returns-then-a-b : goal.returns-then-a-b
returns-then-a-b c = mapped_twice_lengths plain-Field erase_field c.args.a.now c.args.b.now c.if-a-b.true
