use Rattle.rx_tree.specs.Erase.{erase_item}
use Rattle.rx_tree.specs.PlainOf.{plain-Item}
use Rattle.rx_tree_operations.proofs.Lengths.{mapped_twice_lengths}
use Rattle.rx_tree_operations.proofs.equality_items.same_items.Goals as goal

pub returns-then-a-b : goal.returns-then-a-b
returns-then-a-b c = mapped_twice_lengths plain-Item erase_item c.args.a.now c.args.b.now c.if-a-b.true
