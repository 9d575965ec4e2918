use Rattle.std.proofs.Common.{[], sym, ap, ◌∙◌}
use Rattle.rx_exits_plan.specs.Runs.{Home}
use Rattle.rx_exits.specs.Living.{IsAsked}
use Rattle.rx_exits.proofs.Listing.{if_ok}
use Rattle.rx_exits.proofs.FactsLemmas.{of_ok, entry_is, living_is}
use Rattle.rx_exits.proofs.planning.planned_of.Goals as goal

pub plan_by-requires : goal.plan_by-requires
plan_by-requires c = of_ok IsAsked c.living-living.result c.in_ok-living.living c.in_ok-living.ensures.0 c.living-living.ensures.asked

pub returns : goal.returns
returns c =
    if_ok _ _ c.plan_by.result (λ p h A K fn F. h A K.run K.home F
    (entry_is A c.args.facts.now c.as_slice-foreign.result.now c.chosen.result c.chosen-2.result c.in_ok-entry.entry c.in_ok-living.entry F c.as_slice-foreign.ensures
    c.in_ok-entry.ensures.0 c.in_ok-entry.ensures.1 c.in_ok-living.ensures.1
    (if_ok _ _ c.chosen.result (λ l k. k A [] K.points) c.chosen.ensures) (if_ok _ _ c.chosen-2.result (λ l k. k A [] K.points) c.chosen-2.ensures))
    (living_is A c.as_slice-2.result.now c.in_ok-entry.entry c.in_ok-living.entry c.living-living.result c.in_ok-living.living c.as_slice-2.ensures c.in_ok-living.ensures.1 c.in_ok-living.ensures.0
    (if_ok _ _ c.living-living.result (λ l k. k A fn K.run (ap (λ (m : Home). m.around.loops) K.home ∙ sym c.as_slice.ensures)) c.living-living.ensures.living)))
    c.plan_by.ensures
