use Rattle.std.proofs.Common.{◌≡◌, take}
use Rattle.rx_tree_operations.proofs.copying.+copy_types.Given as goal

abbrev pub invariant-copy_types-loop-typ : goal.invariant-copy_types-loop-typ
invariant-copy_types-loop-typ l = l.all ≡ take l.typ-index l.types
