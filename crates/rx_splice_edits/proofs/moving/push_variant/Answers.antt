use Rattle.std.proofs.Common.{◌∙◌}
use Rattle.std.proofs.lemmas.Result.{on_ok_weaker}
use Rattle.rx_hoist_plan.specs.PlainPlan.{plain-Exit}
use Rattle.rx_hoist_extraction.specs.Plan.{exit_name}
use Rattle.rx_splice_edits.proofs.Words.{variant_written}
use Rattle.rx_splice_edits.proofs.moving.push_variant.Goals as goal

pub returns : goal.returns
returns c =
    on_ok_weaker c.push-4.result
    (λ last. variant_written c.args.out.now c.push.new.self c.push-2.new.self c.push-3.new.self c.push-4.new.self c.args.plan.now.name c.as_str.result.now
    (exit_name (plain-Exit c.args.exit)) c.as_str-2.result.now c.in_ok-push.ensures.ok c.in_ok-push-2.ensures.ok c.as_str.ensures
    c.in_ok-push-3.ensures.ok last
    (c.as_str-2.ensures ∙ c.in_ok-variant.ensures))
    c.push-4.ensures.ok
