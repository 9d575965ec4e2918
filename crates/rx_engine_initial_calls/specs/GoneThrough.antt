-- A walk through a run to an exit, in the text with its marks: it begins with the mark where the run is entered and the reads of its params,
-- and comes to the mark of the exit, behind which variables end, if anything is done; it touches what the run names alone, and begins nothing
-- that is declared outside. (Rust Reference, "break expressions"; "Destructors", "Drop scopes".)
use Rattle.std.specs.Prelude.{◌≡◌, ℕ, false, List, [], ◌∷◌, ◌++◌}
use Rattle.rx_lower_walks.specs.Actions.{Action}
use Rattle.rx_lower_walks.specs.Walks.{Among, EndsVariable}
use Rattle.rx_facts_tables.specs.Wholes.{begins}
use Rattle.rx_exits_plan.specs.Points.{Exit, enters, leaves}
use Rattle.rx_exits_plan.specs.Marked.{shown}
use Rattle.rx_exits_plan.specs.Asked.{Asked}
use Rattle.rx_exits_plan.specs.Plan.{Plan, variables_of, foreign_of}
use Rattle.rx_engine_related.specs.Reads.{entry_read}
use Rattle.rx_engine_initial.specs.Fates.{LeavesBe}

-- the params are read in front of these
abbrev pub all_read : List ℕ → List Action → List Action
all_read [] us = us
all_read (x ∷ xs) us = entry_read x ∷ all_read xs us

pub record IsGoneThrough (A : Asked) (k : Plan) (e : Exit) (u : List Action) : Type 0 where
  pub entered : (us : List Action) × (u ≡ shown enters ∷ all_read k.params us)
  pub inner : List Action
  pub ends : List Action
  pub left : u ≡ inner ++ shown (leaves e) ∷ ends
  pub ended : (a : Action) → Among a ends → EndsVariable a.act
  pub named : (a : Action) → Among a u → (y : ℕ) → (Among y (variables_of A) → ⊥) → LeavesBe a.act y
  pub declared : (a : Action) → Among a u → (y : ℕ) → Among y (foreign_of A) → begins y a.act ≡ false
