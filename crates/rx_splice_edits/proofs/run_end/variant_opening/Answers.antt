use Rattle.std.proofs.Common.{◌++◌, codes, ap, ◌∙◌}
use Rattle.rx_hoist_plan.specs.PlainPlan.{plain-Plan}
use Rattle.rx_hoist_extraction.specs.Plan.{enum_name}
use Rattle.rx_splice_edits.proofs.Words.{variant_then}
use Rattle.rx_splice_edits.proofs.run_end.variant_opening.Goals as goal

pub returns : goal.returns
returns c =
    let enum = enum_name (plain-Plan c.args.plan.now) in
    variant_then c.empty-text.result c.push_variant.new.out c.push.new.self enum (codes "Next") (codes "(") c.in_ok-push_variant.ensures
    c.in_ok-push.ensures.ok
    ∙ ap (λ l. l ++ (enum ++ (codes "::" ++ (codes "Next" ++ codes "(")))) c.empty-text.ensures
