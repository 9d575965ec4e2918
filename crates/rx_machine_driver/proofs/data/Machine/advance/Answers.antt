use Rattle.rx_machine_driver.specs.PlainSteps.{plain-Next}
use Rattle.rx_machine_driver.proofs.ReachLemmas.{one_step, reaches_next}
use Rattle.rx_machine_driver.proofs.data.Machine.advance.Goals as goal

pub returns-in-GoesInto : goal.returns-in-GoesInto
returns-in-GoesInto c = reaches_next _ _ _ _ _ c.in-GoesInto.is c.goes_into.ensures

pub returns-in_ok-step-in_default : goal.returns-in_ok-step-in_default
returns-in_ok-step-in_default c = one_step c.args.self.now (plain-Next c.args.next) c.step.new.self c.in_ok-step-in_default.step c.in_ok-step-in_default.ensures
