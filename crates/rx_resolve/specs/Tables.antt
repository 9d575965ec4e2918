-- What the code's tables of names stand for.
use Rattle.std.specs.Prelude.{◌≡◌, ◌≢◌, Result, Ok, Err, ◌<◌, ◌^◌, ℕ, suc, List, [], ◌∷◌, length, map, Option, Some, None}
use Rattle.rx_tree.specs.declared.tree.Ident.{Ident}
use Rattle.rx_tree.specs.declared.tree.Item.{Item}
use Rattle.rx_tree.specs.Plain.{ItemTree, ProgramTree}
use Rattle.rx_resolve_names.specs.Scopes.{DeclaredNames, declared_as}
use Rattle.rx_resolve_names.specs.declared.resolved.Misnamed.{Misnamed}
use Rattle.rx_resolve_names.specs.declared.resolved.Misnamed.TheVariants as misnamed
use Rattle.rx_resolve_names.specs.Steps.{Outcome, and_then}
use Rattle.rx_resolve_names.specs.Items.{declared_in}
use Rattle.rx_resolve_names.specs.Meant.{type_name, function_name, kept, variant_names}

abbrev pub kept_in : DeclaredNames → ℕ → Option Ident → DeclaredNames
kept_in ds n None = ds
kept_in ds n (Some x) = kept ds x n (declared_as ds x.name)

-- the names that items have in one of the two lists
abbrev pub names_from : (ItemTree → Option Ident) → DeclaredNames → ℕ → ProgramTree → DeclaredNames
names_from name ds n [] = ds
names_from name ds n (i ∷ is) = names_from name (kept_in ds n (name i)) (suc n) is

-- the tables of a program
pub record Lists (p : ProgramTree) (types functions : DeclaredNames) (variants : List DeclaredNames) : Type 0 where
  pub types_are : types ≡ names_from type_name [] 0 p
  pub functions_are : functions ≡ names_from function_name [] 0 p
  pub variants_are : variants ≡ map variant_names p
  pub small : length p < 2 ^ 32

-- what a function that declares the names of an item ensures
abbrev pub Declares : ItemTree → ℕ → DeclaredNames → DeclaredNames → Result (Unit {0}) Misnamed → DeclaredNames → DeclaredNames → Type 0
Declares i n ts fs (Ok a) new_ts new_fs = (declared_in ts n (type_name i) ≡ Ok new_ts) × (declared_in fs n (function_name i) ≡ Ok new_fs)
Declares i n ts fs (Err e) new_ts new_fs = e ≢ misnamed.OutOfMemory → and_then (declared_in ts n (type_name i)) (λ _. declared_in fs n (function_name i)) ≡ Err e

-- no two of these items have one name
abbrev pub Apart : Outcome (Unit {0}) → List Item → Result (List Item) Misnamed → Type 0
Apart outcome items (Ok it) = (outcome ≡ Ok tt) × (it ≡ items)
Apart outcome items (Err e) = e ≢ misnamed.OutOfMemory → outcome ≡ Err e
