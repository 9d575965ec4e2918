use Rattle.rx_exits.proofs.Looking.{some_here, none_more, none_at_all}
use Rattle.rx_exits.proofs.run_points.is_marked.Goals as goal

pub returns-then-mark-point : goal.returns-then-mark-point
returns-then-mark-point c = some_here c.args.marks.now c.loop-mark.mark-index c.args.point _ (λ i. Unit {0}) c.loop-mark-test.true c.if-mark-point.true tt

pub loop-mark-preserved : goal.loop-mark-preserved
loop-mark-preserved c = none_more c.args.marks.now c.loop-mark.mark-index c.args.point _ (λ i. ⊥) c.if-mark-point.false c.loop-mark.invariant

pub returns : goal.returns
returns c = none_at_all c.args.marks.now c.loop-mark.mark-index c.args.point (λ i. ⊥) c.loop-mark-test.false c.loop-mark.invariant
