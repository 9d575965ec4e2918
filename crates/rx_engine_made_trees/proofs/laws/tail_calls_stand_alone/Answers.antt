use Rattle.rx_engine_made_trees.proofs.StandingTails.{tail_calls_itself}
use Rattle.rx_engine_made_trees.proofs.laws.tail_calls_stand_alone.Goals as goal

pub returns : goal.returns
returns c = λ T A muts k J R n g es has i keeps. tail_calls_itself T A muts k J R n g es has i keeps
