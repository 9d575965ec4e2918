use Rattle.rx_facts_tables.specs.Tables.{SomeAt, NoneAt}
use Rattle.rx_exits.proofs.Looking.{some_here, none_more}
use Rattle.rx_exits.proofs.points_facts.some_there.Goals as goal

pub returns-then-is_there : goal.returns-then-is_there
returns-then-is_there c = some_here c.args.marks.now c.loop-mark.mark-index c.args.point _ (λ i. SomeAt c.args.table.now.rows i c.args.range.first c.args.range.count)
    c.loop-mark-test.true c.if-is_there.ensures.0 c.if-is_there.ensures.1

pub loop-mark-preserved : goal.loop-mark-preserved
loop-mark-preserved c = none_more c.args.marks.now c.loop-mark.mark-index c.args.point _ (λ i. NoneAt c.args.table.now.rows i c.args.range.first c.args.range.count)
    c.if-is_there.ensures c.loop-mark.invariant
