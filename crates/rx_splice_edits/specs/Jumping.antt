-- The words of a jump that leaves a run (Rust Reference, "Return expressions", "Enumerations";
-- REM, "Extract function").
use Rattle.std.specs.Prelude.{ℕ, List, [], ◌∷◌, map, codes}
use Rattle.rx_print_spelling.specs.Pieces.{Piece, mark, keyword, identifier, space, arguments_of}
use Rattle.rx_hoist_extraction.specs.Names.{Names}

abbrev pub one_name : List ℕ → List Piece
one_name x = identifier x ∷ []

-- names in parentheses, where there are some
abbrev pub values_pieces : Names → List Piece
values_pieces [] = []
values_pieces (x ∷ xs) = arguments_of (map one_name (x ∷ xs))

-- `return E::V(outs)`
abbrev pub jump_pieces : List ℕ → List ℕ → Names → List Piece
jump_pieces enum variant outs =
    keyword (codes "return") ∷ space ∷ identifier enum ∷ mark (codes "::") ∷ identifier variant ∷ values_pieces outs
