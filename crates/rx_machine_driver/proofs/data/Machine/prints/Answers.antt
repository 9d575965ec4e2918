use Rattle.rx_machine_values.specs.PlainValues.{plain-Value}
use Rattle.rx_machine_driver.proofs.ActLemmas.{prints_lead}
use Rattle.rx_machine_driver.proofs.data.Machine.prints.Goals as goal

pub returns : goal.returns
returns c = prints_lead c.args.self.now c.print.new.out (plain-Value c.args.value.now) c.in_ok-done.done c.of_write.result c.in_ok-done.ensures c.of_write.ensures
