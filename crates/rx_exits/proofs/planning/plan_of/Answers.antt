use Rattle.std.proofs.Common.{ap, ◌∙◌}
use Rattle.std.specs.Option.{is_some}
use Rattle.rx_exits_plan.specs.Runs.{last_value}
use Rattle.rx_exits_plan.specs.Plan.{handed_value}
use Rattle.rx_exits_plan.specs.PlainPlan.{plain-Run}
use Rattle.rx_exits_plan.specs.PlainSyntax.{plain-Home}
use Rattle.rx_exits.proofs.Listing.{if_ok}
use Rattle.rx_exits.proofs.FactsLemmas.{at_asked}
use Rattle.rx_exits.proofs.PlanningLemmas.{plan_made}
use Rattle.rx_exits.proofs.planning.plan_of.Goals as goal

pub returns-clause-plan : goal.returns-clause-plan
returns-clause-plan c A run home F G =
    plan_made A c.args.exits c.args.entry c.in_ok-lists.held c.as_slice.result.now c.as_slice-2.result.now c.has_value-value.result c.in_ok-lists.lists c.around-lists.result
    c.in_ok-lists.ensures.1 G c.as_slice.ensures c.as_slice-2.ensures
    (c.has_value-value.ensures ∙ ap (λ v. is_some (handed_value v)) (c.last_value.ensures ∙ at_asked (λ x y. last_value x y.body) A (plain-Run c.args.run) (plain-Home c.args.home.now) run home))
    c.in_ok-lists.ensures.0 (if_ok _ _ c.around-lists.result (λ it h k ps outs agree exits. h A k F ps outs agree exits) c.around-lists.ensures)

pub returns-clause-exits : goal.returns-clause-exits
returns-clause-exits c = ap (λ h. h.0) c.in_ok-lists.ensures.1

pub returns-clause-params : goal.returns-clause-params
returns-clause-params c = ap (λ h. h.1.0) c.in_ok-lists.ensures.1
