-- Statements of the caller without a choice that are the call of a plan, where the run is left at its end: each variable in scope behind becomes
-- what the plan says of it. (REM: "Adventures in refactoring Rust: extract function", OOPSLA 2023; Rust Reference, "Call expressions".)
use Rattle.std.specs.Prelude.{ℕ, List}
use Rattle.rx_lower_walks.specs.Actions.{Action}
use Rattle.rx_lower_walks.specs.Walks.{Among}
use Rattle.rx_exits_plan.specs.Points.{next}
use Rattle.rx_exits_plan.specs.Asked.{Asked}
use Rattle.rx_exits_plan.specs.Plan.{Plan}
use Rattle.rx_engine_initial.specs.Matching.{Piece}
use Rattle.rx_engine_initial.specs.Variables.{Kept, as_itself, by_reference, Sides, KnownVariables}
use Rattle.rx_engine_initial.specs.Calls.{Does, AllNew}
use Rattle.rx_engine_initial_calls.specs.Received.{IsWay}
use Rattle.rx_engine_initial_calls.specs.Becoming.{Becomes}

-- what is in scope in front and behind; the variables that the statements begin are none of those in front
pub record Scopes (S : Sides) (R T : KnownVariables S) (H : List Piece) : Type 0 where
  pub no_reference : (x : ℕ) → Among (by_reference x) T.variables → ⊥
  pub new : AllNew R.variables H
  pub wider : (c : Kept) → Among c R.variables → Among c T.variables
  pub loops : (l j : ℕ) → Among (l, j) T.loops → Among (l, j) R.loops

pub record IsCallOf (S : Sides) (A : Asked) (k : Plan) (R T : KnownVariables S) (H : List Piece) : Type 0 where
  pub actions : List Action
  pub way : IsWay S k next R actions
  pub does : Does H actions
  pub becomes : (x y : ℕ) → Among (as_itself x y) T.variables → Becomes S A k next R actions x y
  pub scopes : Scopes S R T H
