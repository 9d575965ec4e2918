use Rattle.rx_modes_uses.proofs.One.{one_list_of_modes, one_list_of_a_run}
use Rattle.rx_modes_uses.proofs.laws.modes_are_one.Goals as goal

pub returns-clause-of_a_plan : goal.returns-clause-of_a_plan
returns-clause-of_a_plan c A muts k choice ms ns p q = one_list_of_modes A muts k choice ms ns p q

pub returns-clause-of_a_run : goal.returns-clause-of_a_run
returns-clause-of_a_run c A muts k m choice ms ns a b p q = one_list_of_a_run A muts k m choice ms ns a b p q
