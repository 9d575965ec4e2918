use Rattle.std.proofs.Common.{Some, map, IfOk, sym, subst}
use Rattle.std.proofs.lemmas.Result.{IfOk-weaker}
use Rattle.rx_tree.specs.PlainOf.{plain-Program, plain-Stmt}
use Rattle.rx_typed.specs.PlainTypes.{plain-Ty}
use Rattle.rx_hoist_plan.specs.PlainPlan.{plain-Plan}
use Rattle.rx_splice_laws.specs.RunEnd as ends
use Rattle.rx_splice_edits.specs.Ending.{IsEnd}
use Rattle.rx_splice_edits.proofs.EndLemmas.{tail_in, no_tail}
use Rattle.rx_splice_edits.proofs.run_end.valued.Goals as goal

pub returns-in-Some : goal.returns-in-Some
returns-in-Some c =
    subst (λ o. IfOk c.with_value.result (λ e. IsEnd e
    (ends.end_by (plain-Program c.args.program.now) (plain-Plan c.args.plan.now) c.args.span (Some (plain-Ty c.args.ty.now)) (map plain-Stmt
    c.args.run.stmts.now) (tail_in o))))
    (sym c.in-Some.is) c.with_value.ensures

pub returns-in-None : goal.returns-in-None
returns-in-None c =
    IfOk-weaker c.without_value.result _ _
    (λ it. subst (λ e. IsEnd it e)
    (no_tail (plain-Program c.args.program.now) (plain-Plan c.args.plan.now) c.args.span (plain-Ty c.args.ty.now) (map plain-Stmt c.args.run.stmts.now)
    c.args.run.tail c.in-None.is))
    c.without_value.ensures
