use Rattle.std.proofs.Common.{subst}
use Rattle.rx_machine_driver.specs.PlainSteps.{plain-Next}
use Rattle.rx_machine_driver.specs.Running.{Reaches}
use Rattle.rx_machine_driver.proofs.RunLemmas.{stands_next, stands_turn, stands_end, step_lessens}
use Rattle.rx_machine_driver.proofs.data.Machine.until_turn.Goals as goal

pub steps-preserved : goal.steps-preserved
steps-preserved c = λ P n t o l st. stands_next P n t o c.steps.self c.advance.new.self (plain-Next c.steps.now) c.in-Next.next l (subst (λ z. Reaches c.steps.self (plain-Next c.steps.now) c.advance.new.self z) c.in-Next.is c.in_ok-step.ensures) (c.steps.invariant P n t o l st)

pub steps-smaller : goal.steps-smaller
steps-smaller c = step_lessens c.steps.self c.advance.new.self (plain-Next c.steps.now) c.in-Next.next (subst (λ z. Reaches c.steps.self (plain-Next c.steps.now) c.advance.new.self z) c.in-Next.is c.in_ok-step.ensures)

pub returns-in-Turn : goal.returns-in-Turn
returns-in-Turn c = λ P n t o l st. stands_turn P n t o c.steps.self c.advance.new.self (plain-Next c.steps.now) c.in-Turn.turn l (subst (λ z. Reaches c.steps.self (plain-Next c.steps.now) c.advance.new.self z) c.in-Turn.is c.in_ok-step.ensures) (c.steps.invariant P n t o l st)

pub returns-in-End : goal.returns-in-End
returns-in-End c = λ P n t o l st. stands_end P n t o c.steps.self c.advance.new.self (plain-Next c.steps.now) c.in-End.end l (subst (λ z. Reaches c.steps.self (plain-Next c.steps.now) c.advance.new.self z) c.in-End.is c.in_ok-step.ensures) (c.steps.invariant P n t o l st)
