use Rattle.rx_tree.specs.Erase.{erase_ident}
use Rattle.rx_tree_operations.proofs.Lengths.{mapped_lengths}
use Rattle.rx_tree_operations.proofs.equality.same_names.Goals as goal

pub returns-then-a-b : goal.returns-then-a-b
returns-then-a-b c = mapped_lengths erase_ident c.args.a.now c.args.b.now c.if-a-b.true
