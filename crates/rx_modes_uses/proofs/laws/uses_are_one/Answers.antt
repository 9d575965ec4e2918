use Rattle.rx_modes_uses.proofs.One.{one_uses, one_uses_of_a_run}
use Rattle.rx_modes_uses.proofs.laws.uses_are_one.Goals as goal

pub returns-clause-of_a_plan : goal.returns-clause-of_a_plan
returns-clause-of_a_plan c A muts k x u v a b = one_uses A muts k x u v a b

pub returns-clause-of_a_run : goal.returns-clause-of_a_run
returns-clause-of_a_run c A muts k m x u v a b p q = one_uses_of_a_run A muts k m x u v a b p q
