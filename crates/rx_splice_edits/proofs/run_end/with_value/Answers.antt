use Rattle.std.proofs.Common.{map, ap, subst, ◌∙◌}
use Rattle.std.proofs.lemmas.Result.{IfOk-weaker}
use Rattle.rx_tree.specs.PlainOf.{plain-Program}
use Rattle.rx_typed.specs.PlainTypes.{plain-Ty}
use Rattle.rx_hoist_plan.specs.PlainPlan.{plain-Plan, plain-Leaving}
use Rattle.rx_hoist_extraction.specs.Plan as planned
use Rattle.rx_splice_edits.specs.Ending.{IsEnd}
use Rattle.rx_splice_edits.proofs.EndLemmas.{in_enum, no_enum}
use Rattle.rx_splice_edits.proofs.run_end.with_value.Goals as goal

pub returns-then-has_enum : goal.returns-then-has_enum
returns-then-has_enum c =
    IfOk-weaker c.in_variant.result _ _
    (λ it. subst (λ e. IsEnd it e)
    (in_enum (plain-Program c.args.program.now) (plain-Plan c.args.plan.now) c.args.span (plain-Ty c.args.ty.now) c.has_enum.result
    (c.has_enum.ensures ∙ ap (λ l. planned.has_enum (map plain-Leaving l)) c.as_slice.ensures) c.if-has_enum.true))
    c.in_variant.ensures

pub returns : goal.returns
returns c =
    IfOk-weaker c.in_tuple.result _ _
    (λ it. subst (λ e. IsEnd it e)
    (no_enum (plain-Program c.args.program.now) (plain-Plan c.args.plan.now) c.args.span (plain-Ty c.args.ty.now) c.has_enum.result
    (c.has_enum.ensures ∙ ap (λ l. planned.has_enum (map plain-Leaving l)) c.as_slice.ensures) c.if-has_enum.false))
    c.in_tuple.ensures
