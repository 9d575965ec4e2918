-- What stands in front of a function's body.
use Rattle.std.specs.Prelude.{List, [], ◌∷◌, ◌++◌, map, codes}
use Rattle.rx_tree.specs.Plain.{Function}
use Rattle.rx_print_spelling.specs.Pieces.{Piece, mark, keyword, name, space, separated}
use Rattle.rx_print_spelling.specs.Items.{in_angles, bound_pieces, parameter_pieces, result_pieces}

abbrev pub header_pieces : Function → List Piece
header_pieces f =
    keyword (codes "fn") ∷ space ∷ name f.name
    ∷ (in_angles (map bound_pieces f.lifetimes)
    ++ (mark (codes "(") ∷ (separated (map parameter_pieces f.params) ++ (mark (codes ")") ∷ (result_pieces f.result ++ space ∷ [])))))
