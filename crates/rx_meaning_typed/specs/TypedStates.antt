-- States whose values are of their types: memory, the variables of the activation, and what is pending.
use Rattle.std.specs.Prelude.{◌≡◌, ℕ, Bool, true, List, [], ◌∷◌, Option, Some, None}
use Rattle.rx_typed.specs.Types.{Typ}
use Rattle.rx_typed.specs.Tree.{Temporary}
use Rattle.rx_lower_walks.specs.Actions.{Action}
use Rattle.rx_meaning.specs.Endings.{Cause, Ending, wrong, immutable, mistyped, missing_reference}
use Rattle.rx_meaning.specs.Values.{is_set, element, slot_of, State}
use Rattle.rx_meaning_keeping.specs.Pending.{Pending}
use Rattle.rx_meaning_typed.specs.TypedActs.{Typing}
use Rattle.rx_meaning_typed.specs.ValueTypes.{Store, HasType, MemoryTyped, Extends}

-- what `give` gave has no temporary: it is of the type of the result
abbrev pub pending_typ : Typing → Option Temporary → Typ
pending_typ T None = T.result
pending_typ T (Some t) = T.temporaries t

-- what is pending has a value in each part
abbrev pub PendingTyped : Bool → Typing → Store → Pending → Type 0
PendingTyped L T S [] = Unit {0}
PendingTyped L T S (k ∷ K) = (HasType L T.declared S k.1 (pending_typ T k.0) × (is_set k.1 ≡ true)) × PendingTyped L T S K

pub record StateTyped (L : Bool) (T : Typing) (S : Store) (s : State) (K : Pending) : Type 0 where
  pub memory : MemoryTyped L T.declared S s.memory
  -- the slot of a variable is of the variable's type
  pub variables : (x i : ℕ) → slot_of s.frame.slots x ≡ Some i → element S i ≡ Some (T.variables x)
  pub pending : PendingTyped L T S K

-- behind some actions of an activation that found a memory of these types
abbrev pub TypedBehind : Bool → Typing → Store → List Action → State → Pending → Type 0
TypedBehind L T k w s K = (S : Store) × Extends k S × StateTyped L T S s K

-- not that operands are of other types, or that what is followed as a reference is none; nor, where mutability is told too, that
-- something can't be written
abbrev pub IsSensibleCause : Cause → Bool → Type 0
IsSensibleCause mistyped L = ⊥
IsSensibleCause missing_reference L = ⊥
IsSensibleCause immutable true = ⊥
IsSensibleCause _ L = Unit {0}

-- a run doesn't end for such a cause
abbrev pub IsSensible : Bool → Ending → Type 0
IsSensible L (wrong c) = IsSensibleCause c L
IsSensible L _ = Unit {0}
