-- What an accepted function of a typed program has: it is initialised, by the types of its variables; what it looks at and what its run
-- names has a part; and a part of a variable is written where the variable is declared `mut` (Rust Reference, "Mutability").
use Rattle.std.specs.Prelude.{◌≡◌, ℕ, Bool, true, List, [], ◌∷◌, ◌++◌, Some, slice_get}
use Rattle.rx_core.specs.declared.types.Step.{Step}
use Rattle.rx_lower_walks.specs.Actions.{Act, Write, Action}
use Rattle.rx_lower_walks.specs.Orders.{order_function}
use Rattle.rx_lower_walks.specs.Walks.{IsWalk, actions_in, Among}
use Rattle.rx_typed_declarations.specs.Sizes.{Sized}
use Rattle.rx_facts_tables.specs.Setting.{looked_at}
use Rattle.rx_facts_tables.specs.Wholes.{placed}
use Rattle.rx_facts_tables.specs.Initialised.{Initialised}
use Rattle.rx_meaning_keeping.specs.Ready.{HasPart}
use Rattle.rx_exits_plan.specs.Asked.{Asked}
use Rattle.rx_exits_plan.specs.Plan.{variables_of}
use Rattle.rx_engine_simulation.specs.Histories.{IsRoot, IsOwn, IsWhole}

-- a part of a variable's own storage
abbrev pub WritesPart : Act → ℕ → Type 0
WritesPart (Write p t ss) x = IsRoot p.root x × IsOwn p.steps × (IsWhole p.steps → ⊥)
WritesPart _ x = ⊥

pub record Accepted (A : Asked) (muts : List Bool) : Type 0 where
  pub sized : Sized A.frame.declared A.frame.sizes
  pub initialised : Initialised A.frame muts A.function
  pub places : (w : List Action) (a : Action) (x : ℕ) (ss : List Step) → IsWalk A.function (w ++ a ∷ []) → looked_at a.act ≡ Some (placed x ss) → HasPart A.frame x ss
  pub named : (x : ℕ) → Among x (variables_of A) → HasPart A.frame x []
  pub declared : (x : ℕ) → Among x (variables_of A) → (b : Bool) × (slice_get muts x ≡ Some b)
  pub parts_are_mut : (a : Action) (x : ℕ) → Among a (actions_in (order_function A.function)) → WritesPart a.act x → slice_get muts x ≡ Some true
