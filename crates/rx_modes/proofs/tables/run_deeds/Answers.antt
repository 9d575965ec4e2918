use Rattle.std.proofs.Common.{◌∙◌, ap, subst, ℕ, IfOk}
use Rattle.rx_lower_walks.specs.Orders.{order_function}
use Rattle.rx_lower_walks.specs.Walks.{actions_in}
use Rattle.rx_exits_plan.specs.PlainPlan.{plain-Run}
use Rattle.rx_exits_plan.specs.PlainSyntax.{plain-Home}
use Rattle.rx_modes_deeds.specs.Doings.{AreDeeds, deeds_at}
use Rattle.rx_modes.proofs.tables.run_deeds.Goals as goal

pub returns-in-Ok : goal.returns-in-Ok
returns-in-Ok c = subst (λ l. IfOk c.function_deeds-deeds.result (λ it. (x : ℕ) → AreDeeds l x (deeds_at it.items x)))
    (ap (λ f. actions_in (order_function f)) c.in-Ok.ensures ∙ c.alone_has_the_actions_of_the_run.ensures (plain-Run c.args.run) (plain-Home c.args.home.now).body)
    c.function_deeds-deeds.ensures
