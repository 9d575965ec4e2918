use Rattle.std.proofs.Common.{◌∙◌}
use Rattle.rx_tree.specs.PlainOf.{plain-Program}
use Rattle.rx_typed.specs.PlainTypes.{plain-Ty}
use Rattle.rx_hoist_plan.specs.PlainPlan.{plain-Plan}
use Rattle.rx_splice_edits.proofs.EndLemmas.{let_written}
use Rattle.rx_splice_edits.proofs.run_end.let_out.Goals as goal

pub returns : goal.returns
returns c =
    let_written (plain-Program c.args.program.now) (plain-Plan c.args.plan.now) c.args.span (plain-Ty c.args.ty.now)
    c.in_ok-text.text c.push.new.self c.push-2.new.self c.push-3.new.self c.as_str.result.now c.as_str-2.result.now
    c.in_ok-text.ensures c.in_ok-push.ensures.ok (c.as_str.ensures ∙ c.in_ok-name.ensures) c.in_ok-push-2.ensures.ok (c.as_str-2.ensures ∙
    c.in_ok-typ.ensures) c.in_ok-push-3.ensures.ok
