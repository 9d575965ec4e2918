-- What is told of a run, its plan and its new function, where it is to be seen whether an answer is the extraction (REM, "Extract method").
use Rattle.std.specs.Prelude.{ℕ, ◌+◌, Bool, true, false, not, ◌&&◌, ◌||◌, if◌then◌else◌, List, [], ◌∷◌, Option, Some, None, slice_get}
use Rattle.rx_modes_policy.specs.declared.uses.Mode.TheVariants as mode
use Rattle.rx_modes_policy.specs.declared.uses.Mode.{Mode}
use Rattle.rx_exits_plan.specs.Runs.{Run}
use Rattle.rx_exits_plan.specs.Plan.{Plan}
use Rattle.rx_engine_simulation.specs.Sights.{plain, shut, special, Hold, How, Sight, Renaming, sight_of}
use Rattle.rx_engine_simulation.specs.Passing.{New}
use Rattle.rx_engine_alike.specs.Likeness.{is_none}
use Rattle.rx_engine_alike.specs.Variables.{Ways, is_in}
use Rattle.rx_engine_alike.specs.Giving.{is_special}

pub record Told : Type 0 where
  pub run : Run
  -- the loops around it
  pub around : List ℕ
  pub plan : Plan
  -- of the plan's params
  pub modes : List Mode
  -- variables that may be elsewhere in the answer
  pub elsewhere : List ℕ
  -- of the text's function, which variables are declared `mut`
  pub muts : List Bool
  pub new : New
  -- a number that no variable of the new function has, nor any above it
  pub beyond : ℕ
  -- the answer's items for those of the text
  pub items : ℕ → ℕ
  -- functions that give the unit
  pub units : List ℕ
  -- whether the new function is declared to give it
  pub gives_unit : Bool

-- params that are copied, or of which the reference is asked for again: nothing is to be written to them meanwhile
abbrev pub is_closed : List ℕ → ℕ → Mode → Bool
is_closed moved x mode.Value = not (is_in x moved)
is_closed moved x mode.Shared = false
is_closed moved x mode.Mut = false
is_closed moved x mode.Reborrow = true
is_closed moved x mode.View = true

abbrev pub closed_of : List ℕ → List ℕ → List Mode → List ℕ
closed_of moved (x ∷ xs) (m ∷ ms) = if is_closed moved x m then x ∷ closed_of moved xs ms else closed_of moved xs ms
closed_of moved _ _ = []

abbrev pub closed_in : Told → List ℕ
closed_in T = closed_of T.elsewhere T.plan.params T.modes

abbrev pub ways_in : Told → Ways
ways_in T = record { elsewhere = T.elsewhere; closed = closed_in T }

-- a variable that may be assigned in the caller: it is declared `mut`, or has no value where the run is entered
abbrev pub is_true : Option Bool → Bool
is_true None = false
is_true (Some b) = b

abbrev pub may_be_assigned : Told → ℕ → Bool
may_be_assigned T x = is_true (slice_get T.muts x) || is_in x T.plan.locals

-- ---- renamings

abbrev pub is_special_sight : Option Sight → Bool
is_special_sight None = false
is_special_sight (Some e) = is_special e.how

-- each variable that is elsewhere is one of these
abbrev pub specials_among : Renaming → List ℕ → Bool
specials_among [] xs = true
specials_among (b ∷ R) xs = (not (is_special b.1.how) || is_in b.0 xs) && specials_among R xs

-- all these are elsewhere there
abbrev pub all_special : Renaming → List ℕ → Bool
all_special R [] = true
all_special R (x ∷ xs) = is_special_sight (sight_of R x) && all_special R xs

-- a renaming without these variables
abbrev pub without : List ℕ → Renaming → Renaming
without xs [] = []
without xs (b ∷ R) = if is_in b.0 xs then without xs R else b ∷ without xs R
