-- The invariants of the loops: what is written, and what is left of the list behind it, are the whole text.
use Rattle.std.proofs.Common.{◌≡◌, ◌++◌, drop, map}
use Rattle.rx_tree.specs.PlainOf.{plain-Field}
use Rattle.rx_print_spelling.specs.Pieces.{flat, entries}
use Rattle.rx_print_spelling.specs.Items.{field_pieces}
use Rattle.rx_print_parts.proofs.declarations.push_fields.Given as goal

abbrev pub invariant-loop-field : goal.invariant-loop-field
invariant-loop-field l = l.out ++ flat (entries (map field_pieces (map plain-Field (drop l.field-index l.list)))) ≡ l.fn.out ++ flat (entries (map field_pieces (map plain-Field l.list)))
