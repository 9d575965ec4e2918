use Rattle.std.proofs.Common.{map, IfOk, sym, subst}
use Rattle.rx_tree.specs.PlainOf.{plain-Stmt}
use Rattle.rx_hoist_plan.specs.PlainPlan.{plain-Plan}
use Rattle.rx_splice_laws.specs.RunEnd as ends
use Rattle.rx_splice_edits.specs.Ending.{IsEnd}
use Rattle.rx_splice_edits.proofs.EndLemmas.{tail_in}
use Rattle.rx_splice_edits.proofs.run_end.unfollowed.Goals as goal

pub returns-in-Some : goal.returns-in-Some
returns-in-Some c =
    subst (λ o. IsEnd c.as_it_is.result (ends.unfollowed (plain-Plan c.args.plan.now) (map plain-Stmt c.args.run.stmts.now) (tail_in o))) (sym
    c.in-Some.is) c.as_it_is.ensures

pub returns-in-None : goal.returns-in-None
returns-in-None c =
    subst (λ o. IfOk c.without_tail.result (λ e. IsEnd e (ends.unfollowed (plain-Plan c.args.plan.now) (map plain-Stmt c.args.run.stmts.now) (tail_in o))))
    (sym c.in-None.is) c.without_tail.ensures
