use Rattle.std.proofs.Common.{map, subst, false, true}
use Rattle.std.proofs.lemmas.Result.{IfOk-weaker}
use Rattle.rx_tree.specs.PlainOf.{plain-Stmt}
use Rattle.rx_hoist_plan.specs.PlainPlan.{plain-Plan}
use Rattle.rx_splice_edits.specs.Ending.{IsEnd}
use Rattle.rx_splice_edits.proofs.EndLemmas.{not_last, last_by_open}
use Rattle.rx_splice_edits.proofs.run_end.without_tail.Goals as goal

pub returns-then-not-stays_last : goal.returns-then-not-stays_last
returns-then-not-stays_last c =
    subst (λ e. IsEnd c.as_it_is.result e)
    (not_last (plain-Plan c.args.plan.now) (map plain-Stmt c.args.stmts.now) c.stays_last.result c.stays_last.ensures c.if-not-stays_last.true)
    c.as_it_is.ensures

pub returns-then-last_is_open : goal.returns-then-last_is_open
returns-then-last_is_open c =
    IfOk-weaker c.closed.result _ _
    (λ it. subst (λ e. IsEnd it e)
    (last_by_open (plain-Plan c.args.plan.now) (map plain-Stmt c.args.stmts.now) c.stays_last.result c.last_is_open.result true
    c.stays_last.ensures c.if-not-stays_last.false c.last_is_open.ensures c.if-last_is_open.true))
    c.closed.ensures

pub returns : goal.returns
returns c =
    subst (λ e. IsEnd c.as_it_is-2.result e)
    (last_by_open (plain-Plan c.args.plan.now) (map plain-Stmt c.args.stmts.now) c.stays_last.result c.last_is_open.result false
    c.stays_last.ensures c.if-not-stays_last.false c.last_is_open.ensures c.if-last_is_open.false)
    c.as_it_is-2.ensures
