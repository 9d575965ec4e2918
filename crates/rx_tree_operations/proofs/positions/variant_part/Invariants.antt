use Rattle.std.proofs.Common.{◌≡◌, drop, slice_get}
use Rattle.rx_tree_operations.proofs.PositionsLemmas.{variant_places}
use Rattle.rx_tree_operations.proofs.positions.variant_part.Given as goal

abbrev pub invariant-loop-variant : goal.invariant-loop-variant
invariant-loop-variant l = slice_get (variant_places (drop l.variant-index l.variants)) l.left ≡ slice_get (variant_places l.variants) l.fn.number
