use Rattle.rx_machine_driver.proofs.binding.none_left.Goals as goal

pub returns-in-Some : goal.returns-in-Some
returns-in-Some c = (c.pop.new.self, c.in-Some.value, c.in-Some.ensures)

pub returns-in-None : goal.returns-in-None
returns-in-None c = c.in-None.ensures.0
