-- When a run has no plan to go by, and which variable shows it. (Rust Reference, "Variables", "Scopes".)
use Rattle.std.specs.Prelude.{ℕ, Bool, false, List, Option, Some, slice_get}
use Rattle.rx_core.specs.Bytes.{same_bytes}
use Rattle.rx_exits_plan.specs.Asked.{Asked}
use Rattle.rx_exits_plan.specs.PlainPlan.{plan_of, IsExitPlan}
use Rattle.rx_exits.specs.Living.{IsLiving}
use Rattle.rx_exits_plan.specs.Plan.{Plan, IsPlan, variables_of}
use Rattle.rx_exits_plan.specs.MixedInit.{MixedInit}
use Rattle.rx_exits_plan.specs.PartlyMoved.{PartlyMoved}
use Rattle.rx_exits_plan.specs.Shadowed.{Shadowed}
use Rattle.rx_modes_uses.specs.First.{First}
use Rattle.rx_exits.specs.declared.answering.ExitFault.{ExitFault}
use Rattle.rx_exits.specs.declared.planning.Planned.{Planned}
use Rattle.rx_exits.specs.Planning.{OutsAgree}

-- whether two variables have one name, by the names of the variables
abbrev pub same_names : Option (List ℕ) → Option (List ℕ) → Bool
same_names (Some a) (Some b) = same_bytes a b
same_names _ _ = false

abbrev pub same_name : List (List ℕ) → ℕ → ℕ → Bool
same_name names y x = same_names (slice_get names y) (slice_get names x)

abbrev pub NoneMixed : Asked → Type 0
NoneMixed A = (x : ℕ) → ¬ (MixedInit A x)

abbrev pub NonePartly : Asked → Plan → Type 0
NonePartly A k = (x : ℕ) → ¬ (PartlyMoved A k x)

abbrev pub NoneShadowed : Asked → Plan → (ℕ → ℕ → Bool) → Type 0
NoneShadowed A k same = (x : ℕ) → ¬ (Shadowed A k same x)

pub record IsPartly (A : Asked) (x : ℕ) : Type 0 where
  pub mixed : NoneMixed A
  pub plan : Plan
  pub is_plan : IsPlan A plan
  pub first : First (PartlyMoved A plan) (variables_of A) x

pub record IsShadowed (A : Asked) (same : ℕ → ℕ → Bool) (x : ℕ) : Type 0 where
  pub mixed : NoneMixed A
  pub plan : Plan
  pub is_plan : IsPlan A plan
  pub partly : NonePartly A plan
  pub first : First (Shadowed A plan same) (variables_of A) x

abbrev pub Refuses : Asked → (ℕ → ℕ → Bool) → ExitFault → Type 0
Refuses A same (ExitFault.MixedInit x) = First (MixedInit A) (variables_of A) x
Refuses A same (ExitFault.PartlyMoved x) = IsPartly A x
Refuses A same (ExitFault.Shadowed x) = IsShadowed A same x
Refuses A same ExitFault.OutOfMemory = Unit {0}

-- a plan to go by
pub record Answers (A : Asked) (same : ℕ → ℕ → Bool) (p : Planned) : Type 0 where
  pub plan : IsExitPlan A p.plan
  pub living : IsLiving A p.plan.params p.living
  pub mixed : NoneMixed A
  pub partly : NonePartly A (plan_of A p.plan)
  pub shadowed : NoneShadowed A (plan_of A p.plan) same
  pub agree : OutsAgree p.plan.exits
