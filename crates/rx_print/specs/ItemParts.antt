-- The part of the canonical text of a program that a function of its own writes.
use Rattle.std.specs.Prelude.{Bool, true, false, List, ◌∷◌, []}
use Rattle.rx_tree.specs.Plain.{ItemTree}
use Rattle.rx_print_spelling.specs.Pieces.{Piece, blanks}
use Rattle.rx_print_spelling.specs.Items.{item_pieces}

-- an item, behind an empty line where it follows another
abbrev pub next_item : Bool → ItemTree → List Piece
next_item false i = item_pieces i
next_item true i = blanks (10 ∷ 10 ∷ []) ∷ item_pieces i
