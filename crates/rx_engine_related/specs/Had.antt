-- What is had of an accepted text and a run in it that isn't refused: its plan, and what acceptance gives (REM, "Extract method").
use Rattle.std.specs.Prelude.{◌≡◌, ℕ, ◌≤◌, Bool, false, List}
use Rattle.rx_lower_walks.specs.Orders.{order_function}
use Rattle.rx_exits_plan.specs.Runs.{Sits}
use Rattle.rx_exits_plan.specs.Coming.{HasNoMark}
use Rattle.rx_exits_plan.specs.Spots.{spots_of_function}
use Rattle.rx_exits_plan.specs.Asked.{Asked}
use Rattle.rx_exits_plan.specs.Plan.{Plan, IsPlan}
use Rattle.rx_exits_plan.specs.PartlyMoved.{PartlyMoved}
use Rattle.rx_modes_uses.specs.NotMut.{NotMut}
use Rattle.rx_modes_uses.specs.Aliased.{Aliased}
use Rattle.rx_engine_related.specs.OneSite.{blocks_at}
use Rattle.rx_engine_related.specs.Accepted.{Accepted}

pub record Had (A : Asked) (muts : List Bool) (k : Plan) : Type 0 where
  -- the run hasn't its block's tail
  pub short : A.run.tail ≡ false
  pub plan : IsPlan A k
  pub accepted : Accepted A muts
  -- it sits in its function, which has no mark; one block has its node
  pub sits : Sits A.function A.run A.home
  pub unmarked : HasNoMark (order_function A.function)
  pub one_block : blocks_at A.run.block (spots_of_function A.function) ≤ 1
  -- it isn't refused
  pub whole : (x : ℕ) → ¬ (PartlyMoved A k x)
  pub unaliased : (x : ℕ) → ¬ (Aliased A muts k x)
  pub passed : (x : ℕ) → ¬ (NotMut A muts k x)
