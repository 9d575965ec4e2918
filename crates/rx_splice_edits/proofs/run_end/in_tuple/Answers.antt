use Rattle.std.proofs.Common.{map, ap, subst, ◌∙◌}
use Rattle.std.proofs.lemmas.Result.{IfOk-weaker}
use Rattle.rx_tree.specs.PlainOf.{plain-Program}
use Rattle.rx_typed.specs.PlainTypes.{plain-Ty}
use Rattle.rx_hoist_plan.specs.PlainPlan.{plain-Plan, plain-Leaving}
use Rattle.rx_hoist_extraction.specs.Plan.{to_next, outs_of}
use Rattle.rx_splice_edits.specs.Ending.{IsEnd}
use Rattle.rx_splice_edits.proofs.EndLemmas.{no_outs, some_outs}
use Rattle.rx_splice_edits.proofs.run_end.in_tuple.Goals as goal

pub returns-then-is_empty : goal.returns-then-is_empty
returns-then-is_empty c =
    subst (λ e. IsEnd c.as_it_is.result e)
    (no_outs (plain-Program c.args.program.now) (plain-Plan c.args.plan.now) c.args.span (plain-Ty c.args.ty.now) c.outs_of-outs.result.now c.is_empty.result
    (c.outs_of-outs.ensures ∙ ap (λ l. outs_of to_next (map plain-Leaving l)) c.as_slice.ensures) c.is_empty.ensures c.if-is_empty.true)
    c.as_it_is.ensures

pub returns : goal.returns
returns c =
    IfOk-weaker c.in_let.result _ _
    (λ it. subst (λ e. IsEnd it e)
    (some_outs (plain-Program c.args.program.now) (plain-Plan c.args.plan.now) c.args.span (plain-Ty c.args.ty.now) c.outs_of-outs.result.now
    c.is_empty.result
    (c.outs_of-outs.ensures ∙ ap (λ l. outs_of to_next (map plain-Leaving l)) c.as_slice.ensures) c.is_empty.ensures c.if-is_empty.false))
    c.in_let.ensures
