use Rattle.rx_engine_made_trees.proofs.StandingTails.{all_tails_stand}
use Rattle.rx_engine_made_trees.proofs.laws.calls_stand_for_tails.Goals as goal

pub returns : goal.returns
returns c = λ A muts k modes items gain U J R r l e Q P. all_tails_stand A muts k modes items gain U J R r l e Q P
