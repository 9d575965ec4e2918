use Rattle.std.proofs.Common.{ap, subst, ℕ, IfOk}
use Rattle.rx_lower_walks.specs.Walks.{actions_in}
use Rattle.rx_modes_deeds.specs.Doings.{AreDeeds, deeds_at}
use Rattle.rx_modes.proofs.tables.function_deeds.Goals as goal

pub returns-in-Ok : goal.returns-in-Ok
returns-in-Ok c = subst (λ l. IfOk c.deeds_in-deeds.result (λ it. (x : ℕ) → AreDeeds l x (deeds_at it.items x))) (ap actions_in c.in-Ok.ensures) c.deeds_in-deeds.ensures
