use Rattle.rx_engine_made_trees.proofs.Matching.{calls_left}
use Rattle.rx_engine_made_trees.proofs.laws.calls_are_left.Goals as goal

pub returns : goal.returns
returns c = λ T A muts k R unit J m c g es l keeps one s none a. calls_left T A muts k R unit J m c g es l keeps one s none a
