use Rattle.rx_engine_made_trees.proofs.Standing.{all_stands}
use Rattle.rx_engine_made_trees.proofs.laws.calls_stand_for_runs.Goals as goal

pub returns : goal.returns
returns c = λ A muts k modes items gain U J R r l Q P. all_stands A muts k modes items gain U J R r l Q P
