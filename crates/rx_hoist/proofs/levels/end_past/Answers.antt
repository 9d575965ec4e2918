use Rattle.std.proofs.Common.{ap, ◌∙◌}
use Rattle.rx_hoist_plan.specs.PlainPlan.{plain-Plan}
use Rattle.rx_hoist_extraction.specs.Values.{next_values, types_of}
use Rattle.rx_hoist.specs.Levels.{past, together_levels as together}
use Rattle.rx_hoist.proofs.LevelLemmas.{together_is}
use Rattle.rx_hoist.proofs.levels.end_past.Goals as goal

pub returns : goal.returns
returns c =
    c.past.ensures ∙ ap past c.together_levels.ensures ∙ ap (λ vs. past (together (types_of vs))) c.handed_on.ensures ∙ together_is (types_of (next_values (plain-Plan c.args.plan.now)))
