use Rattle.rx_machine_values.specs.PlainValues.{plain-Value}
use Rattle.rx_machine_driver.proofs.BindLemmas.{binds_slot}
use Rattle.rx_machine_driver.proofs.data.Machine.bind.Goals as goal

pub returns : goal.returns
returns c = λ rest.
    binds_slot c.args.self.now c.add_slot.new.memory c.set.new.self c.args.variable c.in_ok-slot.slot (plain-Value c.args.value) c.in_ok-slot.ensures.number c.in_ok-slot.ensures.ok c.in_ok-set.ensures rest
