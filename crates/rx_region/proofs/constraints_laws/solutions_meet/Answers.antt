use Rattle.rx_region.proofs.LeastLaws.{intersection}
use Rattle.rx_region.proofs.constraints_laws.solutions_meet.Goals as goal

pub returns : goal.returns
returns c = λ C g R S r s. intersection C g R S r s
