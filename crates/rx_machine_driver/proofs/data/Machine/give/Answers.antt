use Rattle.rx_machine_values.specs.PlainValues.{plain-Value}
use Rattle.rx_machine_driver.proofs.FrameLemmas.{gives_lead, gives_end}
use Rattle.rx_machine_driver.proofs.data.Machine.give.Goals as goal

pub returns-in_ok-step-in-Some : goal.returns-in_ok-step-in-Some
returns-in_ok-step-in-Some c = gives_lead c.args.self.now c.pop.new.self c.in-Some.frame (plain-Value c.args.value) c.in_ok-step-in-Some.step c.in-Some.ensures c.in_ok-step-in-Some.ensures

pub returns-in-None : goal.returns-in-None
returns-in-None c = gives_end c.args.self.now c.pop.new.self (plain-Value c.args.value) c.in-None.ensures.0
