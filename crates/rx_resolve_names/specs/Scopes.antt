-- The names of a list, and the variables in scope (Rust Reference, "Namespaces", "Scopes").
use Rattle.std.specs.Prelude.{ℕ, ◌-◌, if◌then◌else◌, List, [], ◌∷◌, length, drop, Option, Some, None}
use Rattle.std.specs.Str.{bytes_eq}
use Rattle.rx_resolve_names.specs.declared.table.NumberedName.{NumberedName}

-- the names of a list, each with its number and its place
abbrev pub DeclaredNames : Type 0
DeclaredNames = List (List ℕ × NumberedName)

-- the first of this name
abbrev pub declared_as : DeclaredNames → List ℕ → Option NumberedName
declared_as [] x = None
declared_as (d ∷ ds) x = if bytes_eq x d.0 then Some d.1 else declared_as ds x

pub record Variable : Type 0 where
  pub name : List ℕ
  pub number : ℕ

-- the variables in scope, the newest first: it hides the others of its name
abbrev pub Variables : Type 0
Variables = List Variable

abbrev pub variable_named : Variables → List ℕ → Option ℕ
variable_named [] x = None
variable_named (v ∷ vs) x = if bytes_eq x v.name then Some v.number else variable_named vs x

-- the n oldest
unfoldable pub oldest : ℕ → Variables → Variables
oldest n vs = drop (length vs - n) vs

-- these enter the scope in order, so that the last of them is the newest
abbrev pub entered : Variables → DeclaredNames → Variables
entered vs [] = vs
entered vs (d ∷ ds) = entered (record { name = d.0; number = d.1.number } ∷ vs) ds
