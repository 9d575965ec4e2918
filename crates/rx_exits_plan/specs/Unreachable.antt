-- When a run is not reached, or an exit of it, and where that shows; and when it has no exit at all. (Rust Reference, "Never type".)
use Rattle.std.specs.Prelude.{◌≡◌, ◌≢◌, ◌⊎◌, ℕ, if◌then◌else◌, List, [], ◌∷◌, Option, Some, None}
use Rattle.rx_typed.specs.Tree.{Exp, mark_of}
use Rattle.rx_lower_walks.specs.Actions.{Action}
use Rattle.rx_lower_walks.specs.Walks.{Among}
use Rattle.rx_exits_plan.specs.Runs.{last_value}
use Rattle.rx_exits_plan.specs.Points.{Exit, next, same_exit, Point, enters, leaves}
use Rattle.rx_exits_plan.specs.Exits.{Jump, exits, jumps}
use Rattle.rx_exits_plan.specs.Asked.{Asked, ComesTo}

abbrev pub SomeComes : Asked → Point → Type 0
SomeComes A q = (w : List Action) × ComesTo A q w

abbrev pub NoneComes : Asked → Point → Type 0
NoneComes A q = ¬ (SomeComes A q)

-- it has the block's tail, and the tail has a value
abbrev pub HasValue : Option Exp → Type 0
HasValue None = ⊥
HasValue (Some e) = (mark_of e).typ ≢ None

-- its end is to be reached
abbrev pub IsToEnd : Asked → Type 0
IsToEnd A = Among next (exits A.run A.home) ⊎ HasValue (last_value A.run A.home.body)

-- the first jump that takes an exit, by its node
abbrev pub first_of : Exit → List Jump → Option ℕ
first_of x [] = None
first_of x (j ∷ js) = if same_exit x j.exit then Some j.node else first_of x js

-- where it shows: at the run's first statement, at its last, or at the jump of this node
pub data At : Type 0 where
  first : At
  last : At
  jump : ℕ → At

-- the first case that holds tells where
pub data Unreachable (A : Asked) : At → Type 0 where
  -- no walk comes to its first statement
  not_begun : NoneComes A enters → Unreachable A first
  -- none goes through it to its end
  not_ended : SomeComes A enters → IsToEnd A → NoneComes A (leaves next) → Unreachable A last
  -- none comes to any jump of an exit
  not_left : SomeComes A enters → SomeComes A (leaves next) ⊎ (¬ (IsToEnd A)) → (x : Exit) (n : ℕ) → Among x (exits A.run A.home) → x ≢ next
      → NoneComes A (leaves x) → first_of x (jumps A.run A.home) ≡ Some n → Unreachable A (jump n)

abbrev pub Endless : Asked → Type 0
Endless A = exits A.run A.home ≡ []

-- of the three
abbrev pub SameCase : At → At → Type 0
SameCase first first = Unit {0}
SameCase last last = Unit {0}
SameCase (jump n) (jump k) = Unit {0}
SameCase _ _ = ⊥
