-- What types are spelled as. The truth value says that the `&` of a reference is the second half of a mark `&&` that stands before it.
use Rattle.std.specs.Prelude.{Bool, true, false, not, ◌&&◌, List, [], ◌∷◌, ◌++◌, Option, Some, None, map, codes}
use Rattle.rx_tree.specs.declared.tree.Ident.{Ident}
use Rattle.rx_tree.specs.Plain as plain
use Rattle.rx_tree.specs.Plain.{TypeTree, TypeTrees}
use Rattle.rx_lex.specs.declared.token.Class.TheVariants.{Lifetime}
use Rattle.rx_lex.specs.Numerals.{kind_name}
use Rattle.rx_print_spelling.specs.Pieces.{Piece, word, mark, keyword, name, lifetime, space, separated, tuple_of, mutable_pieces, with_ampersand}

-- the lifetime of a reference
abbrev pub lifetime_pieces : Option Ident → List Piece
lifetime_pieces None = []
lifetime_pieces (Some l) = lifetime l ∷ space ∷ []

-- a lifetime behind the name of a type
abbrev pub argument_pieces : Option Ident → List Piece
argument_pieces None = word Lifetime (codes "'_") ∷ []
argument_pieces (Some l) = lifetime l ∷ []

abbrev pub arguments_pieces : Option (List (Option Ident)) → List Piece
arguments_pieces None = []
arguments_pieces (Some ls) = mark (codes "<") ∷ (separated (map argument_pieces ls) ++ mark (codes ">") ∷ [])

abbrev pub is_reference : TypeTree → Bool
is_reference (plain.ref_type s l m t) = true
is_reference _ = false

-- whether nothing stands between the `&` and what it points to
abbrev pub is_bare : Option Ident → Bool → Bool
is_bare None m = not m
is_bare (Some l) m = false

abbrev pub reference_pieces : Bool → Bool → List Piece → List Piece → List Piece
reference_pieces true joins apart joined = apart
reference_pieces false joins apart joined = with_ampersand joins apart joined

abbrev mutual
  pub type_pieces : Bool → TypeTree → List Piece
  type_pieces second (plain.kind_type s k) = keyword (kind_name k) ∷ []
  type_pieces second (plain.bool_type s) = keyword (codes "bool") ∷ []
  type_pieces second (plain.tuple_type s ts) = tuple_of (each_type ts)
  type_pieces second (plain.ref_type s l m t) =
      reference_pieces second (is_bare l m && is_reference t) (lifetime_pieces l ++ (mutable_pieces m ++ type_pieces false t)) (type_pieces true t)
  type_pieces second (plain.named_type s n ls) = name n ∷ arguments_pieces ls

  pub each_type : TypeTrees → List (List Piece)
  each_type plain.no_type = []
  each_type (plain.type_and t ts) = type_pieces false t ∷ each_type ts

-- behind the name of a parameter or a field, and behind a pattern
abbrev pub written_type : TypeTree → List Piece
written_type t = mark (codes ":") ∷ space ∷ type_pieces false t

abbrev pub annotation_pieces : Option TypeTree → List Piece
annotation_pieces None = []
annotation_pieces (Some t) = written_type t
