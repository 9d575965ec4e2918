-- Statements of the caller that are the match of the call of a plan: each walk through them is the way of an exit; it goes on where the run does
-- at its end, jumps where the run jumps, or returns. (REM: "Adventures in refactoring Rust: extract function", OOPSLA 2023; Rust Reference,
-- "match expressions".)
use Rattle.std.specs.Prelude.{◌≡◌, ◌≢◌, ℕ, List, ◌++◌}
use Rattle.rx_lower_walks.specs.Actions.{Action}
use Rattle.rx_lower_walks.specs.Orders.{Order}
use Rattle.rx_lower_walks.specs.Orders as orders
use Rattle.rx_lower_walks.specs.Walks.{Out, leaves, Walk, Among}
use Rattle.rx_exits_plan.specs.Points.{Exit, next, returns}
use Rattle.rx_exits_plan.specs.Asked.{Asked}
use Rattle.rx_exits_plan.specs.Plan.{Plan}
use Rattle.rx_engine_initial.specs.Matching.{SameExit, Piece, Runs, Fronts, Aways, Stays}
use Rattle.rx_engine_initial.specs.Variables.{as_itself, Sides, KnownVariables}
use Rattle.rx_engine_initial_calls.specs.Received.{IsWay}
use Rattle.rx_engine_initial_calls.specs.Becoming.{Becomes}
use Rattle.rx_engine_initial_calls.specs.GoneThrough.{IsGoneThrough}
use Rattle.rx_engine_initial_calls.specs.CallOf.{Scopes}

-- a front of the way of some exit
pub record IsFront (S : Sides) (k : Plan) (R : KnownVariables S) (us : List Action) : Type 0 where
  pub exit : Exit
  pub exits : Among exit k.exits
  pub all : List Action
  pub way : IsWay S k exit R all
  pub rest : List Action
  pub is : us ++ rest ≡ all

-- where it leaves: it returns, or some walk of the text leaves so by an exit, and each variable outside becomes what the plan says of it there
pub data LeavesSo (S : Sides) (A : Asked) (k : Plan) (R : KnownVariables S) (t : Order) (us : List Action) : orders.Exit → Type 0 where
  by_return : {n : ℕ} → LeavesSo S A k R t us (orders.returns n)
  by_jump : {i j : orders.Exit} {u : List Action} (e : Exit) → Among e k.exits → e ≢ returns → SameExit (λ l m. Among (l, m) R.loops) j i → Walk t u (leaves i) → IsGoneThrough A k e u
      → ((x y : ℕ) → Among (as_itself x y) R.variables → Becomes S A k e R us x y) → LeavesSo S A k R t us j

pub record GoesOn (S : Sides) (A : Asked) (k : Plan) (R T : KnownVariables S) (us : List Action) : Type 0 where
  pub exits : Among next k.exits
  pub way : IsWay S k next R us
  pub becomes : (x y : ℕ) → Among (as_itself x y) T.variables → Becomes S A k next R us x y

-- `t`: the run in front of the rest of its block
pub record IsMatchOf (S : Sides) (A : Asked) (k : Plan) (R T : KnownVariables S) (H : List Piece) (t : Order) : Type 0 where
  pub stays : Stays H
  pub fronts : (us : List Action) → Fronts H us → IsFront S k R us
  pub goes_on : (us : List Action) → Runs H us → GoesOn S A k R T us
  pub leaves : (us : List Action) (j : orders.Exit) → Aways H us j → LeavesSo S A k R t us j
  pub scopes : Scopes S R T H

-- some walk goes to each exit, and through the run's pieces where that is its end
pub record HasWays (A : Asked) (k : Plan) (K : List Piece) (t : Order) : Type 0 where
  pub through : (e : Exit) → Among e k.exits → (u : List Action) × (o : Out) × Walk t u o × IsGoneThrough A k e u
  pub to_end : Among next k.exits → (u : List Action) × Runs K u × IsGoneThrough A k next u
