use Rattle.std.proofs.Common.{ℕ, ◌<◌}
use Rattle.rx_meaning.specs.Expressions.{Functions}
use Rattle.rx_meaning.specs.declared.outcome.Outcome.{Outcome}
use Rattle.rx_machine_driver.specs.PlainSteps.{plain-Next}
use Rattle.rx_machine_driver.specs.Running.{Stands, left_size}
use Rattle.rx_machine_driver.proofs.data.Machine.until_turn.Given as goal

abbrev pub invariant-steps : goal.invariant-steps
invariant-steps l = (P : Functions) (n t : ℕ) (o : Outcome) → t < n → Stands P n t l.fn.self (plain-Next l.fn.next) o → Stands P n t l.self (plain-Next l.now) o

abbrev pub decreases-steps : goal.decreases-steps
decreases-steps l = left_size l.self (plain-Next l.now)
