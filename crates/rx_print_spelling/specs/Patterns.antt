-- What patterns are spelled as.
use Rattle.std.specs.Prelude.{Bool, true, false, List, [], ◌∷◌, ◌++◌, codes}
use Rattle.rx_tree.specs.Plain as plain
use Rattle.rx_tree.specs.Plain.{PatternTree, PatternTrees, FieldPatterns}
use Rattle.rx_print_spelling.specs.Pieces.{Piece, mark, name, number, truth, space, tuple_of, arguments_of, fields_of, mutable_pieces}

abbrev pub minus_pieces : Bool → List Piece
minus_pieces false = []
minus_pieces true = mark (codes "-") ∷ []

-- the parts of a variant that has some
abbrev pub parts_of : List (List Piece) → List Piece
parts_of [] = []
parts_of (ps ∷ more) = arguments_of (ps ∷ more)

abbrev mutual
  pub pattern_pieces : PatternTree → List Piece
  pattern_pieces (plain.wild s) = mark (codes "_") ∷ []
  pattern_pieces (plain.bind s n m) = mutable_pieces m ++ (name n ∷ [])
  pattern_pieces (plain.int_pattern s g v k) = minus_pieces g ++ (number v k ∷ [])
  pattern_pieces (plain.bool_pattern s b) = truth b ∷ []
  pattern_pieces (plain.tuple_pattern s ps) = tuple_of (each_pattern ps)
  pattern_pieces (plain.variant_pattern s a v ps) = name a ∷ mark (codes "::") ∷ name v ∷ parts_of (each_pattern ps)
  pattern_pieces (plain.make_pattern s n fs) = name n ∷ space ∷ fields_of (each_field_pattern fs)

  pub each_pattern : PatternTrees → List (List Piece)
  each_pattern plain.no_pattern = []
  each_pattern (plain.pattern_and p ps) = pattern_pieces p ∷ each_pattern ps

  pub each_field_pattern : FieldPatterns → List (List Piece)
  each_field_pattern plain.no_field_pattern = []
  each_field_pattern (plain.field_pattern_and n p fs) = (name n ∷ mark (codes ":") ∷ space ∷ pattern_pieces p) ∷ each_field_pattern fs
