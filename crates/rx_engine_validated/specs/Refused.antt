-- A run in an accepted text that isn't refused for its variables: none is there in part only, each param has a mode, and none would be aliased
-- (Rust Reference, "Moved and copied types", "Mutability").
use Rattle.std.specs.Prelude.{ℕ, Bool, List}
use Rattle.rx_exits_plan.specs.Asked.{Asked}
use Rattle.rx_exits_plan.specs.Plan.{Plan}
use Rattle.rx_exits_plan.specs.PartlyMoved.{PartlyMoved}
use Rattle.rx_modes_uses.specs.NotMut.{NotMut}
use Rattle.rx_modes_uses.specs.Aliased.{Aliased}

pub record NotRefused (A : Asked) (muts : List Bool) (k : Plan) : Type 0 where
  pub whole : (x : ℕ) → ¬ (PartlyMoved A k x)
  pub passed : (x : ℕ) → ¬ (NotMut A muts k x)
  pub unaliased : (x : ℕ) → ¬ (Aliased A muts k x)
