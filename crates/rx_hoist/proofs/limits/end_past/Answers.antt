use Rattle.std.proofs.Common.{ap, ◌∙◌}
use Rattle.rx_typed_declarations.specs.Sizes.{told}
use Rattle.rx_hoist_plan.specs.PlainPlan.{plain-Plan}
use Rattle.rx_hoist_extraction.specs.Values.{next_values, types_of}
use Rattle.rx_hoist.specs.Parts.{past, together_parts as together}
use Rattle.rx_hoist.proofs.PartLemmas.{together_is}
use Rattle.rx_hoist.proofs.limits.end_past.Goals as goal

pub returns : goal.returns
returns c =
    let Z = told c.args.sizes.now in
    c.past.ensures ∙ ap past c.together_parts.ensures ∙ ap (λ vs. past (together Z (types_of vs))) c.handed_on.ensures ∙ together_is Z (types_of (next_values (plain-Plan c.args.plan.now)))
