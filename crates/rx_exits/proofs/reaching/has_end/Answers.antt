use Rattle.std.proofs.Common.{map, get_or, sym, ◌∙◌, subst}
use Rattle.std.proofs.lemmas.List.{get_or_default}
use Rattle.rx_lower_walks.specs.Walks.{Among}
use Rattle.rx_exits_plan.specs.Points.{next}
use Rattle.rx_exits_plan.specs.declared.plan.Exit.{Exit}
use Rattle.rx_exits_plan.specs.declared.plan.Exit.TheVariants as exit
use Rattle.rx_exits_plan.specs.PlainPlan.{plain-Exit}
use Rattle.rx_exits.proofs.ReachingLemmas.{next_is, next_is_not, end_more, exit_among, all_taken}
use Rattle.rx_exits.proofs.reaching.has_end.Goals as goal

pub loop-exit-preserved : goal.loop-exit-preserved
loop-exit-preserved c =
    let x : Exit = get_or c.args.exits.now c.loop-exit.exit-index exit.Next in
    end_more c.args.exits.now c.loop-exit.exit-index x c.loop-exit-test.true (get_or_default c.args.exits.now c.loop-exit.exit-index exit.Next x c.loop-exit-test.true)
    (λ e. next_is_not (plain-Exit x) (sym c.is_next.ensures ∙ c.if-is_next.false) (sym e)) c.loop-exit.invariant

pub returns-then-is_next : goal.returns-then-is_next
returns-then-is_next c =
    let x : Exit = get_or c.args.exits.now c.loop-exit.exit-index exit.Next in
    subst (λ y. Among y (map plain-Exit c.args.exits.now)) (next_is (plain-Exit x) (sym c.is_next.ensures ∙ c.if-is_next.true))
    (exit_among c.args.exits.now c.loop-exit.exit-index x c.loop-exit-test.true (get_or_default c.args.exits.now c.loop-exit.exit-index exit.Next x c.loop-exit-test.true))

pub returns : goal.returns
returns c = all_taken (λ l. ¬ (Among next l)) c.args.exits.now c.loop-exit.exit-index c.loop-exit-test.false c.loop-exit.invariant
