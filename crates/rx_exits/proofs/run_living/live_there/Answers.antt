use Rattle.rx_lower_walks.specs.PlainFlow.{plain-Root}
use Rattle.rx_facts_tables.specs.Live.{IsLive}
use Rattle.rx_exits.proofs.Looking.{found_here, not_found_here, none_at_all}
use Rattle.rx_exits.proofs.Marking.{marks_within}
use Rattle.rx_exits.proofs.run_living.live_there.Goals as goal

pub returns-then-is_live_mark : goal.returns-then-is_live_mark
returns-then-is_live_mark c g root number lives e = found_here c.args.marks.now c.loop-mark.mark-index c.args.point _ (λ i. IsLive g (plain-Root root) i) c.is_live_mark.result
    c.loop-mark-test.true c.if-is_live_mark.true (c.is_live_mark.ensures g root number lives (marks_within g c.args.marks.now c.loop-mark.mark-index _ e c.loop-mark-test.true))

pub loop-mark-preserved : goal.loop-mark-preserved
loop-mark-preserved c g root number lives e = not_found_here c.args.marks.now c.loop-mark.mark-index c.args.point _ (λ i. IsLive g (plain-Root root) i) c.is_live_mark.result
    c.if-is_live_mark.false (c.is_live_mark.ensures g root number lives (marks_within g c.args.marks.now c.loop-mark.mark-index _ e c.loop-mark-test.true))
    (c.loop-mark.invariant g root number lives e)

pub returns : goal.returns
returns c g root number lives e = none_at_all c.args.marks.now c.loop-mark.mark-index c.args.point (λ i. IsLive g (plain-Root root) i → ⊥) c.loop-mark-test.false
    (c.loop-mark.invariant g root number lives e)
