-- When a run is refused because a param can be passed in no mode: it would have to be declared `mut`. (Rust Reference, "Mutability".)
use Rattle.std.specs.Prelude.{ℕ, Bool, List}
use Rattle.rx_exits_plan.specs.Asked.{Asked}
use Rattle.rx_exits_plan.specs.Plan.{Plan}
use Rattle.rx_modes_policy.specs.declared.uses.Uses.{Uses}
use Rattle.rx_modes_policy.specs.Allowed.{allowed_by, HasMember}
use Rattle.rx_modes_uses.specs.First.{First}
use Rattle.rx_modes_uses.specs.Uses.{IsUses}

pub record HasNoMode (A : Asked) (muts : List Bool) (k : Plan) (x : ℕ) : Type 0 where
  pub uses : Uses
  pub are_uses : IsUses A muts k x uses
  pub none : ¬ (HasMember (allowed_by uses))

-- the first such param
abbrev pub NotMut : Asked → List Bool → Plan → ℕ → Type 0
NotMut A muts k x = First (HasNoMode A muts k) k.params x
