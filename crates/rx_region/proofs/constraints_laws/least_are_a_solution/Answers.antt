use Rattle.rx_region.proofs.LeastLaws.{least_serves, least_is_within}
use Rattle.rx_region.proofs.constraints_laws.least_are_a_solution.Goals as goal

pub returns : goal.returns
returns c = record { serves = λ C g R are. least_serves C g R are; least = λ C g R s l x h. least_is_within C g R s l x h }
