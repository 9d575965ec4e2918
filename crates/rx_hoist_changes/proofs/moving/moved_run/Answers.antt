use Rattle.rx_hoist_plan.specs.PlainPlan.{plain-Plan}
use Rattle.rx_hoist_extraction.specs.Moved.{moving}
use Rattle.rx_hoist_changes.proofs.MovedLemmas.{moved_made}
use Rattle.rx_hoist_changes.proofs.moving.moved_run.Goals as goal

pub returns : goal.returns
returns c =
    moved_made (moving (plain-Plan c.args.plan.now) c.args.run) _ c.in_ok-around.around c.new-own.result c.statements.new.own c.args.stmts.now c.in_ok-stmts.stmts c.in_ok-tail.stmts _ c.in_ok-tail.tail
    c.moved_tail.result c.in_ok-stmts.ensures.made c.in_ok-stmts.ensures.own c.moved_tail.ensures c.in_ok-tail.ensures.0 c.in_ok-tail.ensures.1 c.new-own.ensures c.in_ok-around.ensures
