-- Walks with further reads of variables where a run is entered, as a call that stands for the run names them (REM, "Extract method").
use Rattle.std.specs.Prelude.{ℕ, Bool, true, false, List, [], ◌∷◌}
use Rattle.rx_typed.specs.Tree.{own, temporary_at}
use Rattle.rx_lower_walks.specs.Actions.{Read, Action, does}
use Rattle.rx_lower_walks.specs.Walks.{Among}
use Rattle.rx_exits_plan.specs.Points.{enters}
use Rattle.rx_exits_plan.specs.Marked.{shown}

-- such a read, whose value goes to no one
abbrev pub entry_read : ℕ → Action
entry_read y = does 0 (Read false (own y) (temporary_at 0 0))

-- The second list is the first with reads of these variables behind marks of the point where the run is entered; whether it begins behind
-- one.
pub data Wider (xs : List ℕ) : Bool → List Action → List Action → Type 0 where
  no_more : {b : Bool} → Wider xs b [] []
  entered : {b : Bool} {us vs : List Action} → Wider xs true us vs → Wider xs b (shown enters ∷ us) (shown enters ∷ vs)
  kept : {b : Bool} {a : Action} {us vs : List Action} → Wider xs false us vs → Wider xs b (a ∷ us) (a ∷ vs)
  put_in : {us vs : List Action} (y : ℕ) → Among y xs → Wider xs true us vs → Wider xs true us (entry_read y ∷ vs)
