use Rattle.std.proofs.Common.{sym, ap, ◌∙◌}
use Rattle.rx_exits_plan.specs.Runs.{Home}
use Rattle.rx_exits_plan.specs.Plan.{run_actions}
use Rattle.rx_exits_plan.specs.PlainSyntax.{plain-Home}
use Rattle.rx_exits.specs.Moving.{moved_in}
use Rattle.rx_exits.proofs.Listing.{if_ok}
use Rattle.rx_exits.proofs.PlanningLemmas.{offered_is}
use Rattle.rx_exits.proofs.planning.offered.Goals as goal

pub returns : goal.returns
returns c =
    if_ok _ _ c.picked.result (λ l h A run home F. offered_is A c.args.facts.now c.as_slice.result.now c.args.locals.now c.as_slice-direct.result.now c.as_slice-2.result.now l F
    (c.as_slice.ensures ∙ c.in_ok-moved.ensures ∙ ap (λ r. moved_in (run_actions r (plain-Home c.args.home.now).body)) (sym run) ∙ ap (λ (m : Home). moved_in (run_actions A.run m.body)) (sym home))
    c.as_slice-direct.ensures c.as_slice-2.ensures h) c.picked.ensures
