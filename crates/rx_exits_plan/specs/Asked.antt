-- What is asked of: a function and a run in it. When a walk comes to a point of the run, and with what set; and when a variable is
-- live at an exit's target. (RFC 2094, "Liveness"; Rust Reference, "Variables".)
use Rattle.std.specs.Prelude.{◌≡◌, ℕ, true, false, List, [], ◌∷◌, ◌++◌}
use Rattle.rx_typed.specs.Tree.{variable, Function, own}
use Rattle.rx_lower_walks.specs.Actions.{Action}
use Rattle.rx_lower_walks.specs.Walks.{IsWalk}
use Rattle.rx_facts_tables.specs.Along.{ahead}
use Rattle.rx_facts_tables.specs.Places.{Frame}
use Rattle.rx_facts_tables.specs.Setting.{AllSet}
use Rattle.rx_facts_tables.specs.Wholes.{stands}
use Rattle.rx_facts_tables.specs.Live.{living}
use Rattle.rx_exits_plan.specs.Runs.{Run, Home}
use Rattle.rx_exits_plan.specs.Points.{Exit, Point, enters, leaves}
use Rattle.rx_exits_plan.specs.Marked.{shown, marked}
use Rattle.rx_exits_plan.specs.Marked as marks

-- the run's block, and the types of the function's variables
pub record Asked : Type 0 where
  pub function : Function
  pub run : Run
  pub home : Home
  pub frame : Frame

abbrev pub ComesTo : Asked → Point → List Action → Type 0
ComesTo A q w = marks.ComesTo A.function A.run A.home q w

-- every walk that enters the run has all of it set; every one has it unset, or moved as a whole and not written since
abbrev pub IsParam : Asked → ℕ → Type 0
IsParam A x = (w : List Action) → ComesTo A enters w → AllSet A.frame w (own x)

abbrev pub IsLocal : Asked → ℕ → Type 0
IsLocal A x = (w : List Action) → ComesTo A enters w → stands w x [] ≡ false

-- On from the exit some walk uses it before it is written as a whole. The call that is to stand for the run names its params: a walk
-- that enters the run again uses these. Between a jump and its target variables end, and nothing else is done.
abbrev pub IsLiveAt : Asked → List ℕ → Exit → ℕ → Type 0
IsLiveAt A params e x =
    (w us : List Action) × IsWalk (marked A.run A.home.around.loops params A.function) (w ++ shown (leaves e) ∷ us) × (ahead (living (variable x)) us ≡ true)
