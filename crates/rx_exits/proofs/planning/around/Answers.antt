use Rattle.std.proofs.Common.{ap, ◌∙◌}
use Rattle.rx_exits_plan.specs.Occurrences.{those}
use Rattle.rx_exits_plan.specs.Plan.{is_redeclared, variables_of}
use Rattle.rx_exits.proofs.Listing.{if_ok}
use Rattle.rx_exits.proofs.FactsLemmas.{of_ok}
use Rattle.rx_exits.proofs.PlanningLemmas.{redeclared_is, loose_is}
use Rattle.rx_exits.proofs.planning.around.Goals as goal

pub returns : goal.returns
returns c =
    if_ok _ _ c.both.result (λ it h A k F ps outs agree exits. (
      redeclared_is A c.args.facts.now c.as_slice-direct.result.now c.as_slice-behind.result.now c.outs_of.result.now c.as_slice-all.result.now it.0 F
          c.as_slice-direct.ensures c.as_slice-behind.ensures c.as_slice-all.ensures (of_ok _ c.picked.result it.0 h.0 c.picked.ensures)
          ∙ ap (λ l. those (is_redeclared A l) (variables_of A)) c.outs_of.ensures,
      loose_is A k c.args.facts.now c.args.exits.now c.as_slice-foreign.result.now c.as_slice-behind.result.now c.args.params.now c.as_slice-all.result.now it.1 F
          c.as_slice-foreign.ensures c.as_slice-behind.ensures c.as_slice-all.ensures ps outs exits agree (of_ok _ c.picked-2.result it.1 h.1 c.picked-2.ensures),
    )) c.both.ensures
