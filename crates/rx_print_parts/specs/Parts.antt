-- Parts of the canonical text that a function of their own writes.
use Rattle.std.specs.Prelude.{ℕ, zero, suc, Bool, true, false, List, [], ◌∷◌, ◌++◌, Option, codes}
use Rattle.rx_tree.specs.declared.tree.Ident.{Ident}
use Rattle.rx_core.specs.declared.types.Kind.{Kind}
use Rattle.rx_tree.specs.Plain.{TypeTree, PatternTree, PatternTrees, FieldPatterns}
use Rattle.rx_print_spelling.specs.Pieces.{Piece, mark, space, name, number, fields_of, mutable_pieces, with_ampersand}
use Rattle.rx_print_spelling.specs.Types.{lifetime_pieces, arguments_pieces, type_pieces}
use Rattle.rx_print_spelling.specs.Patterns.{minus_pieces, parts_of, pattern_pieces, each_pattern, each_field_pattern}

-- how many levels of blanks these are
abbrev pub depth_of : List ℕ → ℕ
depth_of (a ∷ b ∷ c ∷ d ∷ rest) = suc (depth_of rest)
depth_of _ = zero

-- ---- lists

-- before an element of a list that follows another
abbrev pub comma_pieces : Bool → List Piece
comma_pieces false = []
comma_pieces true = mark (codes ",") ∷ space ∷ []

-- an element of a list, behind a comma where it follows another
abbrev pub next_of : Bool → List Piece → List Piece
next_of follows ps = comma_pieces follows ++ ps

-- behind the parts of a tuple, of which there may be only one
abbrev pub closed_tuple : Bool → List Piece
closed_tuple false = mark (codes ")") ∷ []
closed_tuple true = mark (codes ",") ∷ mark (codes ")") ∷ []

-- ---- types

-- behind the `&` of a reference
abbrev pub pointee_pieces : Option Ident → Bool → TypeTree → List Piece
pointee_pieces l m t = lifetime_pieces l ++ (mutable_pieces m ++ type_pieces false t)

-- a reference, or two whose `&` are one mark
abbrev pub pointer_pieces : Bool → Option Ident → Bool → TypeTree → List Piece
pointer_pieces joined l m t = with_ampersand joined (pointee_pieces l m t) (type_pieces true t)

abbrev pub named_pieces : Ident → Option (List (Option Ident)) → List Piece
named_pieces n ls = name n ∷ arguments_pieces ls

-- ---- patterns

abbrev pub bound_name_pieces : Ident → Bool → List Piece
bound_name_pieces n m = mutable_pieces m ++ (name n ∷ [])

abbrev pub integer_pieces : Bool → ℕ → Option Kind → List Piece
integer_pieces g v k = minus_pieces g ++ (number v k ∷ [])

abbrev pub variant_pattern_pieces : Ident → Ident → PatternTrees → List Piece
variant_pattern_pieces a v ps = name a ∷ mark (codes "::") ∷ name v ∷ parts_of (each_pattern ps)

abbrev pub make_pattern_pieces : Ident → FieldPatterns → List Piece
make_pattern_pieces n fs = name n ∷ space ∷ fields_of (each_field_pattern fs)

abbrev pub field_pattern_pieces : Ident × PatternTree → List Piece
field_pattern_pieces f = name f.0 ∷ mark (codes ":") ∷ space ∷ pattern_pieces f.1
