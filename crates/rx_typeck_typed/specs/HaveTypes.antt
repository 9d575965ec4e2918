-- Each variable of a typed program has a type in its tables, and each node but items, statements and what is Never (Rust
-- Reference, "Type system", "Never type").
use Rattle.std.specs.Prelude.{◌≡◌, ◌⊎◌, ℕ, suc, ◌<◌, true, false, List, [], ◌∷◌, length, Some, slice_get}
use Rattle.rx_core.specs.declared.types.Ty.{Ty}
use Rattle.rx_tree.specs.Plain as plain
use Rattle.rx_tree.specs.Plain.{ProgramTree}
use Rattle.rx_resolve_names.specs.declared.resolved.ItemNames.{ItemNames}
use Rattle.rx_typed.specs.Named.{Function}
use Rattle.rx_typed.specs.Naming.{function_named}
use Rattle.rx_typeck_solver.specs.declared.facts.Subject.{Subject}
use Rattle.rx_typeck_solver.specs.declared.facts.Subject.TheVariants as subject
use Rattle.rx_typeck_solver.specs.Valid.{IsIn}
use Rattle.rx_typeck_typed.specs.declared.typed.TypedFn.{TypedFn}
use Rattle.rx_typeck_typed.specs.Typing.{entries, type_at}
use Rattle.rx_typeck_typed.specs.Nodes.{nodes as all_nodes}

abbrev pub HasTypeInTables : TypedFn → Subject → Type 0
HasTypeInTables t x = (ty : Ty) × (type_at t x ≡ Some ty)

-- each variable has a type, and each node but the item, statements and what is Never; and these are all nodes that there are
pub record AllTyped (f : Function) (t : TypedFn) : Type 0 where
  pub variables : (x : ℕ) → x < length t.mutable → HasTypeInTables t (subject.Variable x)
  pub nodes : (n : ℕ) → IsIn n (all_nodes true f) → HasTypeInTables t (subject.Node n)
  pub others : (n : ℕ) → n < length t.spans → IsIn n (all_nodes true f) ⊎ IsIn n (all_nodes false f)

-- of each function; the first item has this number
abbrev pub EachTyped : List ItemNames → ℕ → ProgramTree → List TypedFn → Type 0
EachTyped ns i [] ts = Unit {0}
EachTyped ns i (plain.function_item s f ∷ is) [] = ⊥
EachTyped ns i (plain.function_item s f ∷ is) (t ∷ ts) = AllTyped (function_named i s f (entries (slice_get ns i))) t × EachTyped ns (suc i) is ts
EachTyped ns i (_ ∷ is) ts = EachTyped ns (suc i) is ts
