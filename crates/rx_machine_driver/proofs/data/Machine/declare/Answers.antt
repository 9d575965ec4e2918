use Rattle.rx_machine_driver.proofs.BindLemmas.{declares}
use Rattle.rx_machine_driver.proofs.data.Machine.declare.Goals as goal

pub returns : goal.returns
returns c = λ rest. declares c.args.self.now c.bind.new.self c.args.variable rest (c.in_ok-bind.ensures rest)
