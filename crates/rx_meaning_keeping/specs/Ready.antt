-- What the strict meaning asks of a program: that its functions are initialised, and laws of the trees that are elaborated.
use Rattle.std.specs.Prelude.{◌≡◌, ℕ, Bool, true, false, List, [], ◌∷◌, ◌++◌, Some}
use Rattle.rx_core.specs.declared.types.Step.{Step}
use Rattle.rx_typed.specs.Tree.{Temporary, Making, Function}
use Rattle.rx_lower_walks.specs.Actions.{Declare, Dead, Build, Action, does}
use Rattle.rx_lower_walks.specs.Walks.{IsWalk}
use Rattle.rx_meaning.specs.Values.{Value, is_set}
use Rattle.rx_meaning.specs.Operators as operators
use Rattle.rx_meaning.specs.Operators.{make}
use Rattle.rx_meaning.specs.Expressions.{Functions}
use Rattle.rx_typed_declarations.specs.Sizes.{Sized}
use Rattle.rx_facts_tables.specs.Places.{Frame, is_part}
use Rattle.rx_facts_tables.specs.Setting.{is_behind, looked_at}
use Rattle.rx_facts_tables.specs.Wholes.{placed}
use Rattle.rx_facts_tables.specs.Initialised.{Initialised}
use Rattle.rx_meaning_keeping.specs.Pending.{Paired}
use Rattle.rx_meaning_keeping.specs.Formed.{Any, AllFormed}
use Rattle.rx_meaning_keeping.specs.Keeping.{IsFunction}

-- a place of a variable has a part
abbrev pub HasPart : Frame → ℕ → List Step → Type 0
HasPart F x qs = (n : ℕ) × (is_part F (placed x qs) n ≡ true)

abbrev pub AllHere : List Value → Type 0
AllHere [] = Unit {0}
AllHere (v ∷ vs) = (is_set v ≡ true) × AllHere vs

-- of the actions of a function's walks: each variable that begins or ends, and each place that is looked at and is behind no
-- reference, has a part, so that its type is known; and what is made of values has no part without one, as the fields of a
-- struct have numbers in order
pub record Ready (F : Frame) (f : Function) : Type 0 where
  pub begins : (w : List Action) (n x : ℕ) → IsWalk f (w ++ does n (Declare x) ∷ []) → HasPart F x []
  pub ends : (w : List Action) (n x : ℕ) → IsWalk f (w ++ does n (Dead x) ∷ []) → HasPart F x []
  pub places : (w : List Action) (a : Action) (x : ℕ) (ss : List Step) → IsWalk f (w ++ a ∷ []) → looked_at a.act ≡ Some (placed x ss) → is_behind ss ≡ false → HasPart F x ss
  pub makes : (w : List Action) (n : ℕ) (m : Making) (js : List ℕ) (ts : List Temporary) (d : Temporary) → IsWalk f (w ++ does n (Build m js ts d) ∷ [])
      → (vs : List Value) (v : Value) → Paired ts vs → AllHere vs → make m js vs ≡ operators.gives v → is_set v ≡ true

-- each function of a program is initialised, by the types and the declarations of its variables, and its tree is as those that
-- are elaborated
pub record IsInitial (P : Functions) (Fs : ℕ → Frame) (muts : ℕ → List Bool) : Type 0 where
  pub sized : (f : ℕ) → Sized (Fs f).declared (Fs f).sizes
  pub formed : AllFormed P (λ f. Any)
  pub ready : (f : ℕ) (F : Function) → IsFunction P f F → Ready (Fs f) F
  pub initialised : (f : ℕ) (F : Function) → IsFunction P f F → Initialised (Fs f) (muts f) F
