-- What private functions tell of the points of a run.
use Rattle.std.specs.Prelude.{◌≡◌, ◌≢◌, ◌⊎◌, ℕ, Bool, true, false, List, Option, Some}
use Rattle.rx_typed.specs.Tree.{Exp}
use Rattle.rx_lower_walks.specs.Walks.{Among}
use Rattle.rx_exits_plan.specs.Runs.{last_value}
use Rattle.rx_exits_plan.specs.Points.{Exit, next, leaves}
use Rattle.rx_exits_plan.specs.Asked.{Asked}
use Rattle.rx_exits_plan.specs.Exits as plan
use Rattle.rx_exits_plan.specs.Exits.{Jump}
use Rattle.rx_exits_plan.specs.Unreachable.{SomeComes, NoneComes, HasValue, first_of}

-- a test tells a fact: in one way, and in the other
abbrev pub Tells : Bool → Type 0 → Type 0
Tells true P = P
Tells false P = ¬ P

-- an exit is the run's end, or some walk comes to it, or no jump takes it
abbrev pub IsLeft : Asked → Exit → List Jump → Type 0
IsLeft A x js = (n : ℕ) → x ≢ next → NoneComes A (leaves x) → first_of x js ≡ Some n → ⊥

pub record IsNotLeft (A : Asked) (x : Exit) (js : List Jump) (n : ℕ) : Type 0 where
  pub other : x ≢ next
  pub none : NoneComes A (leaves x)
  pub first : first_of x js ≡ Some n

abbrev pub AllLeft : Asked → List Exit → List Jump → Type 0
AllLeft A es js = (x : Exit) → Among x es → IsLeft A x js

pub record SomeNotLeft (A : Asked) (es : List Exit) (js : List Jump) (n : ℕ) : Type 0 where
  pub exit : Exit
  pub among : Among exit es
  pub it : IsNotLeft A exit js n

-- the run's last value, its exits and its jumps are these
pub record IsKnown (A : Asked) (v : Option Exp) (es : List Exit) (js : List Jump) : Type 0 where
  pub value : last_value A.run A.home.body ≡ v
  pub exits : plan.exits A.run A.home ≡ es
  pub jumps : plan.jumps A.run A.home ≡ js

-- whether the run's end is to be reached where no walk comes there: it is, or it isn't
pub data EndTold (A : Asked) : Bool → Option Exp → List Exit → Type 0 where
  missing : {v : Option Exp} {es : List Exit} → Among next es ⊎ HasValue v → NoneComes A (leaves next) → EndTold A true v es
  come : {v : Option Exp} {es : List Exit} → SomeComes A (leaves next) → EndTold A false v es
  no_end : {v : Option Exp} {es : List Exit} → ¬ (Among next es ⊎ HasValue v) → EndTold A false v es
