use Rattle.std.proofs.Common.{sym, ap, ◌∙◌}
use Rattle.std.specs.Option.{is_some}
use Rattle.rx_exits_plan.specs.Plan.{handed_value}
use Rattle.rx_exits_plan.specs.PlainSyntax.{plain-Value}
use Rattle.rx_exits.proofs.planning.has_value.Goals as goal

pub returns-in-Some : goal.returns-in-Some
returns-in-Some c = c.hands_value.ensures ∙ ap (λ v. is_some (handed_value (plain-Value v))) (sym c.in-Some.is)

pub returns-in-None : goal.returns-in-None
returns-in-None c = ap (λ v. is_some (handed_value (plain-Value v))) (sym c.in-None.is)
