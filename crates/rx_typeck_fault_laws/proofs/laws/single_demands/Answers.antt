use Rattle.rx_typeck_fault_laws.proofs.Singles.{same_facts}
use Rattle.rx_typeck_fault_laws.proofs.laws.single_demands.Goals as goal

pub returns : goal.returns
returns c = same_facts
