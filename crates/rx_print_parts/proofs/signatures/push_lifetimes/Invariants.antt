-- The invariants of the loops: what is written, and what is left of the list behind it, are the whole text.
use Rattle.std.proofs.Common.{◌≡◌, ◌++◌, drop, map}
use Rattle.rx_print_spelling.specs.Pieces.{flat, separated}
use Rattle.rx_print_spelling.specs.Items.{bound_pieces}
use Rattle.rx_print_parts.proofs.WrittenLists.{left_of}
use Rattle.rx_print_parts.proofs.signatures.push_lifetimes.Given as goal

abbrev pub invariant-loop-lifetime : goal.invariant-loop-lifetime
invariant-loop-lifetime l = l.out ++ flat (left_of l.follows (map bound_pieces (drop l.lifetime-index l.list))) ≡ l.fn.out ++ flat (separated (map bound_pieces l.list))
