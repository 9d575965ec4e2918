-- What the tables stand for.
use Rattle.std.specs.Prelude.{◌≡◌, ℕ, List, [], ◌∷◌, map, Option, Some, None}
use Rattle.std.specs.Str.{bytes_eq}
use Rattle.std.specs.Map.{lookup}
use Rattle.rx_resolve_names.specs.declared.table.NumberedName.{NumberedName}
use Rattle.rx_resolve_names.specs.declared.scope.Entered.{Entered}
use Rattle.rx_resolve_names.specs.Scopes.{DeclaredNames, Variable, Variables, variable_named}

-- the names of a map's entries, with what they stand for
abbrev pub declared_of : {R : Type 0} → (R → List ℕ) → List (R × NumberedName) → DeclaredNames
declared_of name es = map (λ e. (name e.0, e.1)) es

abbrev pub variable_of : Entered → Variable
variable_of e = record { name = e.name.now; number = e.number }

-- the variables that entered, the oldest of which is first, on top of others
abbrev pub variables_of : Variables → List Entered → Variables
variables_of vs [] = vs
variables_of vs (e ∷ es) = variables_of (variable_of e ∷ vs) es

abbrev pub joined : {A : Type 0} → Option (Option A) → Option A
joined None = None
joined (Some o) = o

-- each knows the number of the variable that it hides
abbrev pub Hide : Variables → List Entered → Type 0
Hide vs [] = Unit {0}
Hide vs (e ∷ es) = (e.hidden ≡ variable_named vs e.name.now) × Hide (variable_of e ∷ vs) es

-- the table has the newest variable of each name
pub record Stands {R : Type 0} (name : R → List ℕ) (newest : List (R × Option ℕ)) (entered : List Entered) : Type 0 where
  pub found : (x : List ℕ) → joined (lookup (λ r. bytes_eq x (name r)) newest) ≡ variable_named (variables_of [] entered) x
  pub hide : Hide [] entered
