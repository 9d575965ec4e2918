use Rattle.rx_engine_made_trees.proofs.Matching.{calls_matched}
use Rattle.rx_engine_made_trees.proofs.laws.calls_are_matched.Goals as goal

pub returns : goal.returns
returns c = λ T A muts k R unit J m c g es l keeps v one s i a. calls_matched T A muts k R unit J m c g es l keeps v one s i a
