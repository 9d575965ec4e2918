-- The invariants of the loops: what is written, and what is left of the list behind it, are the whole text.
use Rattle.std.proofs.Common.{◌≡◌, ◌++◌, drop, map}
use Rattle.rx_print_spelling.specs.Pieces.{flat, separated}
use Rattle.rx_print_spelling.specs.Items.{derive_pieces}
use Rattle.rx_print_parts.proofs.WrittenLists.{left_of}
use Rattle.rx_print_parts.proofs.declarations.push_each_derive.Given as goal

abbrev pub invariant-loop-derive : goal.invariant-loop-derive
invariant-loop-derive l = l.out ++ flat (left_of l.follows (map derive_pieces (drop l.derive-index l.list))) ≡ l.fn.out ++ flat (separated (map derive_pieces l.list))
