use Rattle.rx_tree.specs.Erase.{erase_variant}
use Rattle.rx_tree.specs.PlainOf.{plain-EnumVariant}
use Rattle.rx_tree_operations.proofs.Lengths.{mapped_twice_lengths}
use Rattle.rx_tree_operations.proofs.equality_items.same_variants.Goals as goal

pub returns-then-a-b : goal.returns-then-a-b
returns-then-a-b c = mapped_twice_lengths plain-EnumVariant erase_variant c.args.a.now c.args.b.now c.if-a-b.true
