-- The invariants of the loops: what is written, and what is left of the list behind it, are the whole text.
use Rattle.std.proofs.Common.{◌≡◌, ◌++◌, drop, map}
use Rattle.rx_tree.specs.PlainOf.{plain-Param}
use Rattle.rx_print_spelling.specs.Pieces.{flat, separated}
use Rattle.rx_print_spelling.specs.Items.{parameter_pieces}
use Rattle.rx_print_parts.proofs.WrittenLists.{left_of}
use Rattle.rx_print_parts.proofs.signatures.push_parameters.Given as goal

abbrev pub invariant-loop-parameter : goal.invariant-loop-parameter
invariant-loop-parameter l = l.out ++ flat (left_of l.follows (map parameter_pieces (map plain-Param (drop l.parameter-index l.list)))) ≡ l.fn.out ++ flat (separated (map parameter_pieces (map plain-Param l.list)))
