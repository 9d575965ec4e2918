-- Rows of names, and what is made by them (Rust Reference, "Identifiers", "Lifetimes and loop labels").
use Rattle.std.specs.Prelude.{ℕ, zero, suc, ◌+◌, nat_lt, not, ◌&&◌, if◌then◌else◌, List, [], ◌∷◌, ◌++◌, length, get_or, map, Option, Some, None}
use Rattle.rx_core.specs.declared.types.Span.{Span}
use Rattle.rx_tree.specs.declared.tree.Ident.{Ident}
use Rattle.rx_tree.specs.Plain.{TypeTree, ProgramTree}
use Rattle.rx_typed.specs.Types.{Typ}
use Rattle.rx_hoist_extraction.specs.Names.{Names, is_among}
use Rattle.rx_hoist_extraction.specs.Fresh.{fresh}
use Rattle.rx_hoist_extraction.specs.WrittenTypes.{positions, full, elided}

-- so many fresh names, from number i on
abbrev pub fresh_row : List ℕ → Names → ℕ → ℕ → Names
fresh_row word taken i zero = []
fresh_row word taken i (suc many) = fresh word taken i ∷ fresh_row word taken (suc i) many

-- one more name, where fewer than so many are there and it is not taken
abbrev pub extended : Names → ℕ → Names → List ℕ → Names
extended names many taken x = if nat_lt (length names) many && not (is_among x taken) then names ++ x ∷ [] else names

-- the name of a number in a list
abbrev pub nth_name : Names → ℕ → List ℕ
nth_name names k = get_or names k []

-- types with the names of a row, one after the other
abbrev pub fulls : ProgramTree → Span → (ℕ → List ℕ) → ℕ → List Typ → List TypeTree
fulls P s r n [] = []
fulls P s r n (t ∷ ts) = full P s r n t ∷ fulls P s r (n + positions P t) ts

abbrev pub elideds : ProgramTree → Span → List Typ → List TypeTree
elideds P s ts = map (elided P s) ts

-- lifetimes as they are written, where there are some
abbrev pub if_any : List (Option Ident) → Option (List (Option Ident))
if_any [] = None
if_any (l ∷ ls) = Some (l ∷ ls)
