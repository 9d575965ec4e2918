-- The run, the exits and the plan that those of the code stand for.
use Rattle.std.specs.Prelude.{◌≡◌, if◌then◌else◌, ℕ, List, [], ◌∷◌, map, Option}
use Rattle.std.specs.Option.{is_some}
use Rattle.rx_typed.specs.Types.{Typ}
use Rattle.rx_exits_plan.specs.Runs as runs
use Rattle.rx_exits_plan.specs.Runs.{last_value}
use Rattle.rx_exits_plan.specs.Points as points
use Rattle.rx_exits_plan.specs.Points.{same_exit}
use Rattle.rx_exits_plan.specs.declared.plan.Run.{Run}
use Rattle.rx_exits_plan.specs.declared.plan.Exit.{Exit}
use Rattle.rx_exits_plan.specs.declared.plan.Exit.TheVariants as exit
use Rattle.rx_exits_plan.specs.declared.plan.ExitOuts.{ExitOuts}
use Rattle.rx_exits_plan.specs.declared.plan.ExitPlan.{ExitPlan}
use Rattle.rx_exits_plan.specs.Asked.{Asked}
use Rattle.rx_exits_plan.specs.Plan.{Plan, IsPlan, handed_value}

abbrev pub plain-Run : Run → runs.Run
plain-Run r = record { block = r.block; first = r.first; count = r.count; tail = r.tail }

abbrev pub plain-Exit : Exit → points.Exit
plain-Exit exit.Next = points.next
plain-Exit (exit.Break l) = points.breaks l
plain-Exit (exit.Continue l) = points.continues l
plain-Exit exit.Return = points.returns

-- what an exit hands out; one that is not listed nothing
abbrev pub outs_in : List ExitOuts → points.Exit → List ℕ
outs_in [] x = []
outs_in (e ∷ es) x = if same_exit x (plain-Exit e.exit) then e.outs else outs_in es x

-- the plan, where the run's value has this type
abbrev pub plan_with : Option Typ → ExitPlan → Plan
plan_with t k = record {
  exits = map (λ (e : ExitOuts). plain-Exit e.exit) k.exits;
  params = k.params;
  locals = k.locals;
  outs = outs_in k.exits;
  value = t;
  redeclared = k.redeclared;
  loose = k.loose;
}

abbrev pub plan_of : Asked → ExitPlan → Plan
plan_of A k = plan_with (handed_value (last_value A.run A.home.body)) k

pub record IsExitPlan (A : Asked) (k : ExitPlan) : Type 0 where
  pub plan : IsPlan A (plan_of A k)
  pub value : k.value ≡ is_some (handed_value (last_value A.run A.home.body))
