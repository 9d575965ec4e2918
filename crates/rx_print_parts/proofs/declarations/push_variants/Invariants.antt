-- The invariants of the loops: what is written, and what is left of the list behind it, are the whole text.
use Rattle.std.proofs.Common.{◌≡◌, ◌++◌, drop, map}
use Rattle.rx_tree.specs.PlainOf.{plain-EnumVariant}
use Rattle.rx_print_spelling.specs.Pieces.{flat, entries}
use Rattle.rx_print_spelling.specs.Items.{variant_pieces}
use Rattle.rx_print_parts.proofs.declarations.push_variants.Given as goal

abbrev pub invariant-loop-variant : goal.invariant-loop-variant
invariant-loop-variant l = l.out ++ flat (entries (map variant_pieces (map plain-EnumVariant (drop l.variant-index l.list)))) ≡ l.fn.out ++ flat (entries (map variant_pieces (map plain-EnumVariant l.list)))
