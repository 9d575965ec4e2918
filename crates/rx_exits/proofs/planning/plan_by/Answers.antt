use Rattle.std.proofs.Common.{subst}
use Rattle.rx_exits_plan.specs.Plan.{offered}
use Rattle.rx_exits.specs.Choosing.{AllHandOut}
use Rattle.rx_exits.proofs.Listing.{if_ok}
use Rattle.rx_exits.proofs.PlanningLemmas.{planned_is}
use Rattle.rx_exits.proofs.planning.plan_by.Goals as goal

pub returns : goal.returns
returns c =
    if_ok _ _ c.with_living.result (λ p made A run home F E L. planned_is A c.args.living c.args.entry.0 c.args.entry.1 c.handed_out-exits.result c.plan_with-plan.result p
    (if_ok _ _ c.handed_out-exits.result (λ es h. h A run home F) c.handed_out-exits.ensures.exits)
    (if_ok _ _ c.handed_out-exits.result (λ es h. subst (λ ls. AllHandOut A c.args.entry.0 (offered A ls) es) c.as_slice.ensures (h A c.args.entry.0 run home F L)) c.handed_out-exits.ensures.outs)
    (if_ok _ _ c.plan_with-plan.result (λ k h. h A run home F) c.plan_with-plan.ensures.plan)
    c.plan_with-plan.ensures.exits c.plan_with-plan.ensures.params made.0 made.1 E L) c.with_living.ensures
