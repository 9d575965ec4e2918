-- What is written, and what is left of the names behind it, are the whole.
use Rattle.std.proofs.Common.{◌≡◌, ◌++◌, drop, map}
use Rattle.rx_print_spelling.specs.Pieces.{flat, separated}
use Rattle.rx_print_parts.proofs.WrittenLists.{left_of}
use Rattle.rx_splice_edits.specs.Jumping.{one_name}
use Rattle.rx_splice_edits.proofs.Words.{names_in}
use Rattle.rx_splice_edits.proofs.moving.push_names.Given as goal

abbrev pub invariant-loop-variable : goal.invariant-loop-variable
invariant-loop-variable l =
    l.out ++ flat (left_of l.follows (map one_name (names_in (drop l.variable-index l.variables))))
    ≡ l.fn.out ++ flat (separated (map one_name (names_in l.variables)))
