-- Which functions are initialised: on every walk, each place that is read, borrowed or tested is set, each that a part is
-- written of is there as a whole, and a variable that isn't declared `mut` is assigned once.
-- (Rust Reference, "Variables"; "Expressions", "Moved and copied types".)
use Rattle.std.specs.Prelude.{◌≡◌, ℕ, true, false, Bool, List, [], ◌∷◌, ◌++◌, Some, slice_get}
use Rattle.rx_core.specs.declared.types.Step.{Step}
use Rattle.rx_typed.specs.Tree.{Place, Function}
use Rattle.rx_lower_walks.specs.Actions.{Action}
use Rattle.rx_lower_walks.specs.Walks.{IsWalk}
use Rattle.rx_lower_walks.specs.Graph.{Site}
use Rattle.rx_facts_tables.specs.Along.{Arrives}
use Rattle.rx_facts_tables.specs.Places.{Frame}
use Rattle.rx_facts_tables.specs.Setting.{looked_at, AllSet, SomeSet, SomeUnset}
use Rattle.rx_facts_tables.specs.Wholes.{placed, stands, was_assigned}
use Rattle.rx_facts_tables.specs.Wholes as wholes

-- the types of variables are those of the frame; a truth value for each says whether it is declared `mut`
abbrev pub IsFixed : List Bool → ℕ → Type 0
IsFixed muts x = slice_get muts x ≡ Some false

-- an action that is in order behind these
pub record InOrder (F : Frame) (muts : List Bool) (w : List Action) (a : Action) : Type 0 where
  pub looks : (p : Place) → looked_at a.act ≡ Some p → AllSet F w p
  pub enters : (x : ℕ) (qs : List Step) → wholes.enters x qs a.act ≡ true → stands w x qs ≡ true
  pub assigns : (x : ℕ) → wholes.assigns x a.act ≡ true → IsFixed muts x → was_assigned w x ≡ false

abbrev pub Initialised : Frame → List Bool → Function → Type 0
Initialised F muts f = (w : List Action) (a : Action) → IsWalk f (w ++ a ∷ []) → InOrder F muts w a

-- ---- why a function is not

-- on some walk this place is read, borrowed or tested where a part of it is unset, or a part of it is written where it is
-- not there as a whole; at this node
pub data IsUnset (F : Frame) (f : Function) (n : ℕ) (p : Place) : Type 0 where
  looked : (w : List Action) (a : Action) → IsWalk f (w ++ a ∷ []) → a.node ≡ n → looked_at a.act ≡ Some p → SomeUnset F w p → IsUnset F f n p
  entered : (w : List Action) (a : Action) (x : ℕ) (qs : List Step) → IsWalk f (w ++ a ∷ []) → a.node ≡ n → p ≡ placed x qs → wholes.enters x qs a.act ≡ true
      → stands w x qs ≡ false → IsUnset F f n p

-- on some walk this variable, which isn't declared `mut`, is assigned where it was before; at this node
pub data IsAgain (muts : List Bool) (f : Function) (n : ℕ) (x : ℕ) : Type 0 where
  again : (w : List Action) (a : Action) → IsWalk f (w ++ a ∷ []) → a.node ≡ n → wholes.assigns x a.act ≡ true → IsFixed muts x → was_assigned w x ≡ true → IsAgain muts f n x

-- ---- what may be, where a walk comes to a site

abbrev pub MayBeSet : Frame → List Site → Place → ℕ → Type 0
MayBeSet F g p i = (w : List Action) × Arrives g 0 w i × SomeSet F w p

abbrev pub MayBeUnset : Frame → List Site → Place → ℕ → Type 0
MayBeUnset F g p i = (w : List Action) × Arrives g 0 w i × SomeUnset F w p
