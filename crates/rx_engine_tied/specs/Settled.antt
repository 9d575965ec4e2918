-- What is had besides of a run that is refused for no variable, with the modes of a policy (REM, "Extract function"):
-- of what is decided of a run in an accepted text.
use Rattle.std.specs.Prelude.{◌≡◌, ℕ, Bool, List, map}
use Rattle.rx_exits_plan.specs.Asked.{Asked}
use Rattle.rx_exits_plan.specs.MixedInit.{MixedInit}
use Rattle.rx_exits_plan.specs.PartlyMoved.{PartlyMoved}
use Rattle.rx_exits_plan.specs.Plan.{is_moved}
use Rattle.rx_exits_plan.specs.PlainPlan.{plan_of}
use Rattle.rx_exits.specs.Refusing.{same_name, NoneShadowed}
use Rattle.rx_modes_policy.specs.declared.uses.Mode.{Mode}
use Rattle.rx_modes_policy.specs.declared.uses.Uses.{Uses}
use Rattle.rx_modes_policy.specs.Allowed.{allowed_by, HasMember, IsMember}
use Rattle.rx_modes_uses.specs.Modes.{IsModes}
use Rattle.rx_hoist_nodes.specs.TypedRun.{typed_run}
use Rattle.rx_hoist_naming.specs.NamedPlan.{names_in, Told}

pub record Settled (A : Told) (q : Asked) (muts : List Bool) (choice : Uses → Mode) : Type 0 where
  pub run : q.run ≡ typed_run A.program A.run
  -- no variable from outside is there on one way into the run and not on another, or in part; none is handed out in
  -- part
  pub mixed : (x : ℕ) → MixedInit q x → ⊥
  pub partly : (x : ℕ) → PartlyMoved q (plan_of q A.plan) x → ⊥
  -- the names of what is handed out mean just that there
  pub visible : NoneShadowed q (plan_of q A.plan) (same_name (names_in A))
  -- each param is passed as the policy chooses, among the modes that its uses allow, and it is told whether the run
  -- moves it
  pub allowed : (u : Uses) → HasMember (allowed_by u) → IsMember (choice u) (allowed_by u)
  pub modes : IsModes q muts (plan_of q A.plan) choice A.modes
  pub moved : A.moved ≡ map (is_moved q) A.plan.params
