use Rattle.rx_machine_values.specs.PlainValues.{plain-Value}
use Rattle.rx_machine_driver.specs.PlainSteps.{plain-Exit}
use Rattle.rx_machine_driver.proofs.FrameLemmas.{leaves_lead, leaves_end}
use Rattle.rx_machine_driver.proofs.data.Machine.leave.Goals as goal

pub returns-in-Some : goal.returns-in-Some
returns-in-Some c =
    leaves_lead c.args.self.now c.leave_frame.new.self c.pop.new.self c.in-Some.frame (plain-Exit c.args.exit) (plain-Value c.args.value) c.leave_frame.result c.in-Some.ensures c.leave_frame.ensures

pub returns-in-None : goal.returns-in-None
returns-in-None c = leaves_end c.args.self.now c.pop.new.self (plain-Exit c.args.exit) (plain-Value c.args.value) c.in-None.ensures.0
