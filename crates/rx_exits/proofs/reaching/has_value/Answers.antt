use Rattle.std.proofs.Common.{false, sym, subst}
use Rattle.rx_exits_plan.specs.Unreachable.{HasValue}
use Rattle.rx_exits_plan.specs.PlainSyntax.{plain-Value}
use Rattle.rx_exits.specs.Reaching.{Tells}
use Rattle.rx_exits.proofs.reaching.has_value.Goals as goal

pub returns-in-Some : goal.returns-in-Some
returns-in-Some c = subst (λ v. Tells c.is_typed.result (HasValue (plain-Value v))) (sym c.in-Some.is) c.is_typed.ensures

pub returns-in-None : goal.returns-in-None
returns-in-None c = subst (λ v. Tells false (HasValue (plain-Value v))) (sym c.in-None.is) (λ h. h)
