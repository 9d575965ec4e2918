-- The invariants of the loops: what is written, and what is left of the list behind it, are the whole text.
use Rattle.std.proofs.Common.{◌≡◌, ◌++◌, drop}
use Rattle.rx_print_spelling.specs.Pieces.{flat}
use Rattle.rx_print_spelling.specs.Items.{bounds_pieces}
use Rattle.rx_print_parts.proofs.WrittenItems.{left_of_bounds}
use Rattle.rx_print_parts.proofs.signatures.push_bounds.Given as goal

abbrev pub invariant-loop-bound : goal.invariant-loop-bound
invariant-loop-bound l = l.out ++ flat (left_of_bounds l.follows (drop l.bound-index l.list)) ≡ l.fn.out ++ flat (bounds_pieces l.list)
