-- Parts of the canonical text of structs, enums and signatures that a function of their own writes.
use Rattle.std.specs.Prelude.{Bool, true, false, ℕ, List, [], ◌∷◌, ◌++◌, Option, map, codes}
use Rattle.rx_tree.specs.declared.tree.Ident.{Ident}
use Rattle.rx_tree.specs.declared.tree.BoundLifetime.{BoundLifetime}
use Rattle.rx_tree.specs.Plain.{TypeTree, Parameter}
use Rattle.rx_print_spelling.specs.Pieces.{Piece, mark, keyword, name, lifetime, space, line, separated}
use Rattle.rx_print_spelling.specs.Items.{in_angles, one_lifetime, bound_pieces, parameter_pieces, result_pieces}

-- before a bound of a lifetime that follows another
abbrev pub plus_pieces : Bool → List Piece
plus_pieces false = []
plus_pieces true = space ∷ mark (codes "+") ∷ space ∷ []

abbrev pub next_bound : Bool → Ident → List Piece
next_bound follows l = plus_pieces follows ++ (lifetime l ∷ [])

-- the name of a function, and its lifetimes
abbrev pub called_pieces : Ident → List BoundLifetime → List Piece
called_pieces n ls = keyword (codes "fn") ∷ space ∷ name n ∷ in_angles (map bound_pieces ls)

-- the parameters of a function, and its result
abbrev pub signature_pieces : List Parameter → Option TypeTree → List Piece
signature_pieces xs t = mark (codes "(") ∷ (separated (map parameter_pieces xs) ++ (mark (codes ")") ∷ result_pieces t))

-- a type's keyword, its name and its lifetimes
abbrev pub declared_pieces : List ℕ → Ident → List Ident → List Piece
declared_pieces w n ls = keyword w ∷ space ∷ name n ∷ (in_angles (map one_lifetime ls) ++ (space ∷ []))

-- a field or a variant on a line of its own
abbrev pub entry_pieces : List Piece → List Piece
entry_pieces ps = line 1 ∷ (ps ++ (mark (codes ",") ∷ []))
