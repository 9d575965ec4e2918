use Rattle.std.proofs.Common.{◌≡◌, List, map, ap, subst, ◌∙◌}
use Rattle.std.proofs.lemmas.Result.{IfOk-weaker}
use Rattle.rx_tree.specs.declared.tree.Expr.{Expr}
use Rattle.rx_tree.specs.Plain as plain
use Rattle.rx_tree.specs.PlainOf.{plain-Expr, plain-Stmt}
use Rattle.rx_hoist_plan.specs.PlainPlan.{plain-Plan, plain-Leaving}
use Rattle.rx_hoist_extraction.specs.Plan.{to_next, outs_of, names_of}
use Rattle.rx_hoist_extraction.specs.NewBody.{is_followed, next_outs}
use Rattle.rx_splice_edits.specs.Ending.{IsEnd}
use Rattle.rx_splice_edits.proofs.EndLemmas.{tail_in, followed_is, unfollowed_is}
use Rattle.rx_splice_edits.proofs.run_end.without_value.Goals as goal

pub returns-then-is_followed : goal.returns-then-is_followed
returns-then-is_followed c =
    let pl = plain-Plan c.args.plan.now in
    let outs : map plain-Expr c.in_ok-outs.outs ≡ next_outs pl c.args.span =
    c.in_ok-outs.ensures ∙ ap (λ vs. map (plain.var c.args.span) (names_of vs)) (c.outs_of.ensures ∙ ap (λ l. outs_of to_next (map plain-Leaving l))
    c.as_slice.ensures) in
    IfOk-weaker c.followed.result _ _
    (λ it. subst (λ e. IsEnd it e)
    (followed_is pl c.args.span (map plain-Stmt c.args.run.stmts.now) (tail_in c.args.run.tail) _ (map plain-Expr c.in_ok-outs.outs) c.is_followed.result outs
    c.in_ok-tail.ensures (c.is_followed.ensures ∙ ap (λ (l : List Expr). is_followed pl (map plain-Expr l)) c.as_slice-2.ensures) c.if-is_followed.true))
    c.followed.ensures

pub returns : goal.returns
returns c =
    let pl = plain-Plan c.args.plan.now in
    let outs : map plain-Expr c.in_ok-outs.outs ≡ next_outs pl c.args.span =
    c.in_ok-outs.ensures ∙ ap (λ vs. map (plain.var c.args.span) (names_of vs)) (c.outs_of.ensures ∙ ap (λ l. outs_of to_next (map plain-Leaving l))
    c.as_slice.ensures) in
    IfOk-weaker c.unfollowed.result _ _
    (λ it. subst (λ e. IsEnd it e)
    (unfollowed_is pl c.args.span (map plain-Stmt c.args.run.stmts.now) (tail_in c.args.run.tail) (map plain-Expr c.in_ok-outs.outs) c.is_followed.result outs
    (c.is_followed.ensures ∙ ap (λ (l : List Expr). is_followed pl (map plain-Expr l)) c.as_slice-2.ensures) c.if-is_followed.false))
    c.unfollowed.ensures
