use Rattle.rx_engine_made_trees.proofs.Standing.{calls_itself}
use Rattle.rx_engine_made_trees.proofs.laws.calls_stand_alone.Goals as goal

pub returns : goal.returns
returns c = λ T A muts k J R n g es i keeps. calls_itself T A muts k J R n g es i keeps
