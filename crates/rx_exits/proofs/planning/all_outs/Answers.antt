use Rattle.std.proofs.Common.{[], ◌∷◌, ◌++◌, get_or, sym, ap, ◌∙◌, subst}
use Rattle.std.proofs.lemmas.List.{get_or_default}
use Rattle.rx_exits_plan.specs.declared.plan.Exit.{Exit}
use Rattle.rx_exits_plan.specs.declared.plan.Exit.TheVariants as exit
use Rattle.rx_exits_plan.specs.declared.plan.ExitOuts.{ExitOuts}
use Rattle.rx_exits_plan.specs.PlainPlan.{plain-Exit}
use Rattle.rx_exits_tree.proofs.Turns.{copied_turn, copied_end}
use Rattle.rx_exits.specs.Choosing.{HandsOut, AllHandOut}
use Rattle.rx_exits.proofs.Listing.{if_ok, all_more}
use Rattle.rx_exits.proofs.FactsLemmas.{of_ok}
use Rattle.rx_exits.proofs.planning.all_outs.Goals as goal

pub loop-exit-preserved : goal.loop-exit-preserved
loop-exit-preserved c =
    let x : Exit = get_or c.args.exits.now c.loop-exit.exit-index exit.Next in
    record {
      exits = copied_turn (λ (e : ExitOuts). plain-Exit e.exit) plain-Exit [] c.args.exits.now c.loop-exit.exit-index x c.loop-exit.all c.in_ok-next.held c.in_ok-all.all c.outs_at.result c.in_ok-next.next
          c.loop-exit-test.true (get_or_default c.args.exits.now c.loop-exit.exit-index exit.Next x c.loop-exit-test.true) c.in_ok-next.ensures.0 c.in_ok-next.ensures.1
          (if_ok _ _ c.outs_at.result (λ e h. ap plain-Exit h) c.outs_at.ensures.exit) c.in_ok-all.ensures c.loop-exit.invariant.exits;
      outs = λ A ps L. subst (AllHandOut A ps c.args.offered.now) (sym (c.in_ok-all.ensures ∙ ap (λ l. l ++ c.in_ok-next.next ∷ []) c.in_ok-next.ensures.1))
          (all_more (HandsOut A ps c.args.offered.now) c.loop-exit.all c.in_ok-next.next (c.loop-exit.invariant.outs A ps L)
          (of_ok (HandsOut A ps c.args.offered.now) c.outs_at.result c.in_ok-next.next c.in_ok-next.ensures.0 (if_ok _ _ c.outs_at.result (λ e h. h A ps L) c.outs_at.ensures.outs)));
    }

pub returns-clause-exits : goal.returns-clause-exits
returns-clause-exits c =
    copied_end (λ (e : ExitOuts). plain-Exit e.exit) plain-Exit [] c.args.exits.now c.loop-exit.exit-index c.loop-exit.all c.loop-exit-test.false c.loop-exit.invariant.exits

pub returns-clause-outs : goal.returns-clause-outs
returns-clause-outs c A ps L = c.loop-exit.invariant.outs A ps L
