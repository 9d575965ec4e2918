-- The invariants of the loops: what is written, and what is left of the list behind it, are the whole text.
use Rattle.std.proofs.Common.{◌≡◌, ◌++◌, drop, map}
use Rattle.rx_tree.specs.PlainOf.{plain-Item}
use Rattle.rx_print_spelling.specs.Pieces.{flat}
use Rattle.rx_print_spelling.specs.Items.{program_pieces}
use Rattle.rx_print.proofs.WrittenItems.{left_of_items}
use Rattle.rx_print.proofs.items.push_items.Given as goal

abbrev pub invariant-loop-item : goal.invariant-loop-item
invariant-loop-item l = l.out ++ flat (left_of_items l.follows (map plain-Item (drop l.item-index l.list))) ≡ l.fn.out ++ flat (program_pieces (map plain-Item l.list))
