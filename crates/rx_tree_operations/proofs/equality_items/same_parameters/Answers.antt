use Rattle.rx_tree.specs.Erase.{erase_parameter}
use Rattle.rx_tree.specs.PlainOf.{plain-Param}
use Rattle.rx_tree_operations.proofs.Lengths.{mapped_twice_lengths}
use Rattle.rx_tree_operations.proofs.equality_items.same_parameters.Goals as goal

pub returns-then-a-b : goal.returns-then-a-b
returns-then-a-b c = mapped_twice_lengths plain-Param erase_parameter c.args.a.now c.args.b.now c.if-a-b.true
