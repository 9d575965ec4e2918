use Rattle.rx_typeck_solver.proofs.ListReads.{drop_item}
use Rattle.rx_typeck_solver.proofs.Looking.{among_true, among_false}
use Rattle.rx_typeck_solver.proofs.tests.is_among.Goals as goal

pub returns-then-is : goal.returns-then-is
returns-then-is c = among_true c.args.name.now c.other-item.result _ _ c.is.result _ (drop_item c.as_slice-other-items.result.now c.args.names.now c.loop-other.other-index c.other-item.result c.as_slice-other-items.ensures c.loop-other-test.true c.other-item.is) c.is.ensures c.if-is.true c.loop-other.invariant

pub loop-other-preserved : goal.loop-other-preserved
loop-other-preserved c = among_false c.args.name.now c.other-item.result _ _ c.is.result _ (drop_item c.as_slice-other-items.result.now c.args.names.now c.loop-other.other-index c.other-item.result c.as_slice-other-items.ensures c.loop-other-test.true c.other-item.is) c.is.ensures c.if-is.false c.loop-other.invariant
