use Rattle.rx_hoist_made.proofs.Dropped.{found, passed}
use Rattle.rx_hoist_made.proofs.BoundLemmas.{statement_here}
use Rattle.rx_hoist_made.proofs.bound.is_declared.Goals as goal

pub returns-then-declares : goal.returns-then-declares
returns-then-declares c = found c.declares.result _ _ _ _ c.loop-stmt.invariant
    (statement_here c.args.name.now c.args.stmts.now c.loop-stmt.stmt-index c.stmt-item.result c.loop-stmt-test.true c.stmt-item.is)
    c.declares.ensures c.if-declares.true

pub loop-stmt-preserved : goal.loop-stmt-preserved
loop-stmt-preserved c = passed c.declares.result _ _ _ _ c.loop-stmt.invariant
    (statement_here c.args.name.now c.args.stmts.now c.loop-stmt.stmt-index c.stmt-item.result c.loop-stmt-test.true c.stmt-item.is)
    c.declares.ensures c.if-declares.false
