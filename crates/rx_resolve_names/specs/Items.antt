-- The numbers of the names of items (Rust Reference, "Items", "Namespaces").
use Rattle.std.specs.Prelude.{ℕ, suc, List, [], ◌∷◌, ◌++◌, length, map, Option, Some, None, Ok}
use Rattle.rx_tree.specs.declared.tree.Ident.{Ident}
use Rattle.rx_tree.specs.declared.tree.BoundLifetime.{BoundLifetime}
use Rattle.rx_tree.specs.Plain as plain
use Rattle.rx_tree.specs.Plain.{TypeTree, Parameter, Function, FieldOf, VariantOf, ItemTree, ProgramTree}
use Rattle.rx_resolve_names.specs.declared.resolved.ItemNames.{ItemNames}
use Rattle.rx_resolve_names.specs.Scopes.{DeclaredNames, Variables, entered}
use Rattle.rx_resolve_names.specs.Meant.{number, type_name, function_name, firsts, lifetimes_declared, Around}
use Rattle.rx_resolve_names.specs.Steps.{Outcome, and_then, Naming, ◌>>◌, nothing, Inside, one, both, declare, with_variable, child, next, numbered}
use Rattle.rx_resolve_names.specs.Names.{lifetime_in, in_type, in_types, behind, Binding, in_optional_type, in_block}

-- a list of names without a double
abbrev pub distinct : DeclaredNames → ℕ → List Ident → Naming
distinct ds n [] t = Ok t
distinct ds n (x ∷ xs) t = and_then (declare ds x n) (λ ds. distinct ds (suc n) xs t)

-- ---- structs and enums. `i` is the number of the next type among the item's children

abbrev pub in_declared : Inside → List ℕ → DeclaredNames → ℕ → List FieldOf → Naming
in_declared I at ds i [] t = Ok t
in_declared I at ds i (f ∷ fs) t = and_then (declare ds f.name i) (λ ds. (in_type I (child at i) f.typ >> in_declared I at ds (next i) fs) t)

abbrev pub in_variants : Inside → List ℕ → DeclaredNames → ℕ → ℕ → List VariantOf → Naming
in_variants I at ds n i [] t = Ok t
in_variants I at ds n i (v ∷ vs) t = and_then (declare ds v.name n) (λ ds. (in_types I at i v.types >> in_variants I at ds (suc n) (behind i v.types) vs) t)

-- ---- functions

abbrev pub bounds_in : Inside → List Ident → Outcome (List ℕ)
bounds_in I [] = Ok []
bounds_in I (l ∷ ls) = both (one (lifetime_in I l)) (bounds_in I ls)

-- the declared lifetimes, each with the numbers of its bounds
abbrev pub lifetimes_of : Inside → DeclaredNames → ℕ → List BoundLifetime → Outcome (List ℕ)
lifetimes_of I ds n [] = Ok []
lifetimes_of I ds n (l ∷ ls) = and_then (declare ds l.name n) (λ ds. both (bounds_in I l.bounds) (lifetimes_of I ds (suc n) ls))

-- a parameter is a variable; the type, child i, follows the name
abbrev pub in_parameter : Inside → List ℕ → ℕ → Parameter → Binding
in_parameter I at i x b = and_then (declare b.bindings x.name i) (λ ds. and_then (in_type I (child at i) x.typ (with_variable x.name.span b.tables))
    (λ t. Ok (record { bindings = ds; tables = t })))

abbrev pub in_parameters : Inside → List ℕ → ℕ → List Parameter → Binding
in_parameters I at i [] b = Ok b
in_parameters I at i (x ∷ xs) b = and_then (in_parameter I at i x b) (in_parameters I at (next i) xs)

-- so many numbers from n on
abbrev pub numbers_from : ℕ → List Parameter → List ℕ
numbers_from n [] = []
numbers_from n (x ∷ xs) = n ∷ numbers_from (next n) xs

-- the number of the body among the item's children
abbrev pub body_at : ℕ → Option TypeTree → ℕ
body_at i None = i
body_at i (Some t) = next i

-- the entry of the item, its parameters with their types, its result, its body with the parameters in scope
abbrev pub in_function : Inside → Variables → List Around → List ℕ → Function → Naming
in_function I sc ls at f t = and_then (lifetimes_of I [] 0 f.lifetimes) (λ ns. and_then (numbered I at (ns ++ numbers_from 0 f.params) t)
    (λ t. and_then (in_parameters I at 0 f.params (record { bindings = []; tables = t })) (λ b.
    (in_optional_type I (child at (number (length f.params))) f.result
    >> in_block I (entered sc b.bindings) ls (child at (body_at (number (length f.params)) f.result)) f.body) b.tables)))

-- ---- items

abbrev pub in_form : Inside → Variables → List Around → List ℕ → ItemTree → Naming
in_form I sc ls at (plain.rt_item s r) = nothing
in_form I sc ls at (plain.struct_item s d) = distinct [] 0 d.lifetimes >> in_declared I at [] 0 d.fields
in_form I sc ls at (plain.enum_item s d) = distinct [] 0 d.lifetimes >> in_variants I at [] 0 0 d.variants
in_form I sc ls at (plain.function_item s f) = in_function I sc ls at f

-- an item stands where nothing is in scope and no loop is round it
abbrev pub in_item : ProgramTree → ℕ → ItemTree → Outcome ItemNames
in_item p n i = in_form (record { program = p; item = number n; lifetimes = firsts [] 0 (lifetimes_declared i) }) [] [] [] i
    (record { vars = []; lifetimes = map (λ (l : Ident). l.span) (lifetimes_declared i); loops = []; names = [] })

abbrev pub in_items : ProgramTree → ℕ → ProgramTree → Outcome (List ItemNames)
in_items p n [] = Ok []
in_items p n (i ∷ is) = and_then (in_item p n i) (λ x. and_then (in_items p (suc n) is) (λ xs. Ok (x ∷ xs)))

-- ---- programs

-- the names of structs, enums and `rt`, and those of functions
pub record Lists : Type 0 where
  pub types : DeclaredNames
  pub functions : DeclaredNames

abbrev pub declared_in : DeclaredNames → ℕ → Option Ident → Outcome DeclaredNames
declared_in ds n None = Ok ds
declared_in ds n (Some x) = declare ds x n

-- no two items have one name in one of the two lists; the first of the items has number n
abbrev pub apart : Lists → ℕ → ProgramTree → Outcome (Unit {0})
apart l n [] = Ok tt
apart l n (i ∷ is) = and_then (declared_in l.types n (type_name i)) (λ ts. and_then (declared_in l.functions n (function_name i))
    (λ fs. apart (record { types = ts; functions = fs }) (suc n) is))

-- no item twice; then the names of each item, in the order of the text
abbrev pub in_program : ProgramTree → Outcome (List ItemNames)
in_program p = and_then (apart (record { types = []; functions = [] }) 0 p) (λ _. in_items p 0 p)
