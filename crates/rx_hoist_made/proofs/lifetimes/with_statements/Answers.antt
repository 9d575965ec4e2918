use Rattle.std.proofs.Common.{◌≡◌, ◌∙◌}
use Rattle.rx_hoist_made.proofs.Noted.{statement_here}
use Rattle.rx_hoist_made.proofs.lifetimes.with_statements.Goals as goal

pub loop-stmt-preserved : goal.loop-stmt-preserved
loop-stmt-preserved c = statement_here c.loop-stmt.all c.in_ok-all.all c.args.stmts.now c.loop-stmt.stmt-index c.stmt-item.result
    c.loop-stmt-test.true c.stmt-item.is c.in_ok-all.ensures ∙ c.loop-stmt.invariant
