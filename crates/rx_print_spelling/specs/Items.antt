-- What items and programs are spelled as (Rust Style Guide, for the layout).
use Rattle.std.specs.Prelude.{ℕ, false, List, [], ◌∷◌, ◌++◌, Option, Some, None, map, codes}
use Rattle.rx_tree.specs.declared.tree.Ident.{Ident}
use Rattle.rx_tree.specs.declared.tree.Derive.{Derive}
use Rattle.rx_tree.specs.declared.tree.Derive.TheVariants.{Clone, Copy}
use Rattle.rx_tree.specs.declared.tree.BoundLifetime.{BoundLifetime}
use Rattle.rx_tree.specs.Plain as plain
use Rattle.rx_tree.specs.Plain.{TypeTree, TypeTrees, Parameter, Function, FieldOf, Structure, VariantOf, Enumeration, ItemTree, ProgramTree}
use Rattle.rx_print_spelling.specs.Pieces.{Piece, blanks, flat, mark, keyword, identifier, name, lifetime, space, line, separated, entries_of, mutable_pieces}
use Rattle.rx_print_spelling.specs.Types.{each_type, written_type, type_pieces}
use Rattle.rx_print_spelling.specs.Patterns.{parts_of}
use Rattle.rx_print_spelling.specs.Expressions.{between, block}

abbrev pub derive_pieces : Derive → List Piece
derive_pieces Clone = identifier (codes "Clone") ∷ []
derive_pieces Copy = identifier (codes "Copy") ∷ []

-- what is derived stands on a line of its own
abbrev pub derives_pieces : List Derive → List Piece
derives_pieces [] = []
derives_pieces (d ∷ ds) =
    mark (codes "#") ∷ mark (codes "[") ∷ identifier (codes "derive") ∷ mark (codes "(")
    ∷ (separated (map derive_pieces (d ∷ ds)) ++ (mark (codes ")") ∷ mark (codes "]") ∷ line 0 ∷ []))

abbrev pub in_angles : List (List Piece) → List Piece
in_angles [] = []
in_angles (ps ∷ more) = mark (codes "<") ∷ (separated (ps ∷ more) ++ mark (codes ">") ∷ [])

abbrev pub one_lifetime : Ident → List Piece
one_lifetime l = lifetime l ∷ []

-- the bounds of a lifetime, with `+` between each two
abbrev pub bounds_pieces : List Ident → List Piece
bounds_pieces [] = []
bounds_pieces (l ∷ []) = lifetime l ∷ []
bounds_pieces (l ∷ m ∷ more) = lifetime l ∷ between (codes "+") (bounds_pieces (m ∷ more))

abbrev pub behind_lifetime : List Ident → List Piece
behind_lifetime [] = []
behind_lifetime (l ∷ more) = mark (codes ":") ∷ space ∷ bounds_pieces (l ∷ more)

abbrev pub bound_pieces : BoundLifetime → List Piece
bound_pieces l = lifetime l.name ∷ behind_lifetime l.bounds

abbrev pub field_pieces : FieldOf → List Piece
field_pieces f = name f.name ∷ written_type f.typ

abbrev pub structure_pieces : Structure → List Piece
structure_pieces x =
    derives_pieces x.derives
    ++ (keyword (codes "struct") ∷ space ∷ name x.name ∷ (in_angles (map one_lifetime x.lifetimes) ++ (space ∷ entries_of (map field_pieces x.fields))))

abbrev pub variant_pieces : VariantOf → List Piece
variant_pieces v = name v.name ∷ parts_of (each_type v.types)

abbrev pub enumeration_pieces : Enumeration → List Piece
enumeration_pieces x =
    derives_pieces x.derives
    ++ (keyword (codes "enum") ∷ space ∷ name x.name ∷ (in_angles (map one_lifetime x.lifetimes) ++ (space ∷ entries_of (map variant_pieces x.variants))))

abbrev pub parameter_pieces : Parameter → List Piece
parameter_pieces x = mutable_pieces x.mutable ++ (name x.name ∷ written_type x.typ)

abbrev pub result_pieces : Option TypeTree → List Piece
result_pieces None = []
result_pieces (Some t) = between (codes "->") (type_pieces false t)

abbrev pub function_pieces : Function → List Piece
function_pieces f =
    keyword (codes "fn") ∷ space ∷ name f.name
    ∷ (in_angles (map bound_pieces f.lifetimes)
    ++ (mark (codes "(") ∷ (separated (map parameter_pieces f.params) ++ (mark (codes ")") ∷ (result_pieces f.result ++ (space ∷ block 0 f.body))))))

abbrev pub item_pieces : ItemTree → List Piece
item_pieces (plain.rt_item s r) = keyword (codes "mod") ∷ space ∷ identifier (codes "rt") ∷ mark (codes ";") ∷ []
item_pieces (plain.struct_item s x) = structure_pieces x
item_pieces (plain.enum_item s x) = enumeration_pieces x
item_pieces (plain.function_item s f) = function_pieces f

-- what follows an item: the end of the text, or an empty line and the next item
abbrev pub after_item : ProgramTree → List Piece
after_item [] = line 0 ∷ []
after_item (i ∷ is) = blanks (10 ∷ 10 ∷ []) ∷ (item_pieces i ++ after_item is)

abbrev pub program_pieces : ProgramTree → List Piece
program_pieces [] = line 0 ∷ []
program_pieces (i ∷ is) = item_pieces i ++ after_item is

-- the canonical text of a program, as bytes
abbrev pub print_program : ProgramTree → List ℕ
print_program p = flat (program_pieces p)
