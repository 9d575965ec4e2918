use Rattle.std.proofs.Common.{◌∙◌, subst}
use Rattle.rx_exits_plan.specs.PlainPlan.{plain-Run}
use Rattle.rx_exits_plan.specs.PlainSyntax.{plain-Home}
use Rattle.rx_exits.specs.Choosing.{AllHandOut}
use Rattle.rx_exits.proofs.Listing.{if_ok}
use Rattle.rx_exits.proofs.FactsLemmas.{exits_found}
use Rattle.rx_exits.proofs.planning.handed_out.Goals as goal

pub returns-clause-exits : goal.returns-clause-exits
returns-clause-exits c =
    if_ok _ _ c.all_outs.result (λ l h A run home F. h
    ∙ exits_found A (plain-Run c.args.run) (plain-Home c.args.home.now) c.as_slice.result.now c.args.facts.now.jumps c.exits-all.result c.in_ok-all.all c.as_slice-2.result.now run home
    c.as_slice.ensures F.jumps c.in_ok-all.ensures.0 c.as_slice-2.ensures c.exits-all.ensures) c.all_outs.ensures.exits

pub returns-clause-outs : goal.returns-clause-outs
returns-clause-outs c =
    if_ok _ _ c.all_outs.result (λ l h A ps run home F L. subst (λ o. AllHandOut A ps o l)
    (c.as_slice-3.ensures ∙ c.in_ok-all.ensures.1 ∙ c.in_ok-offered.ensures A run home F) (h A ps L)) c.all_outs.ensures.outs
