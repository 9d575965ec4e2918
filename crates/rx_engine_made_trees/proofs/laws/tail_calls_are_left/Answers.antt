use Rattle.rx_engine_made_trees.proofs.Matching.{tail_calls_left}
use Rattle.rx_engine_made_trees.proofs.laws.tail_calls_are_left.Goals as goal

pub returns : goal.returns
returns c = λ T A muts k R unit J m c g es l keeps has one s none a. tail_calls_left T A muts k R unit J m c g es l keeps has one s none a
