-- The invariants of the loops: what is written, and what is left of the list behind it, are the whole text.
use Rattle.std.proofs.Common.{◌≡◌, ◌++◌, drop, map}
use Rattle.rx_tree.specs.PlainOf.{plain-TypeText, types_of}
use Rattle.rx_print_spelling.specs.Pieces.{flat, separated}
use Rattle.rx_print_spelling.specs.Types.{each_type}
use Rattle.rx_print_parts.proofs.WrittenLists.{left_of}
use Rattle.rx_print_parts.proofs.types.+types.Given as goal

abbrev pub invariant-push_types-loop-typ : goal.invariant-push_types-loop-typ
invariant-push_types-loop-typ l =
    l.out ++ flat (left_of l.follows (each_type (types_of (map plain-TypeText (drop l.typ-index l.list))))) ≡ l.fn.out ++ flat (separated (each_type (types_of (map plain-TypeText l.list))))
