use Rattle.std.proofs.Common.{ap, sym, ◌∙◌}
use Rattle.rx_hoist_plan.specs.PlainPlan.{plain-Plan}
use Rattle.rx_hoist.specs.Levels.{first, signature_types}
use Rattle.rx_hoist.proofs.LevelLemmas.{made_is, or_else}
use Rattle.rx_hoist.proofs.levels.levels_past.Goals as goal

pub returns-in-Some : goal.returns-in-Some
returns-in-Some c = let pl = plain-Plan c.args.plan.now in ap (λ o. or_else o (first (signature_types pl))) c.in-Some.ensures ∙ sym (made_is pl)

pub returns-in-None : goal.returns-in-None
returns-in-None c = let pl = plain-Plan c.args.plan.now in c.signature_past.ensures ∙ ap (λ o. or_else o (first (signature_types pl))) c.in-None.ensures ∙ sym (made_is pl)
