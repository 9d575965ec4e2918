use Rattle.rx_engine_made_trees.proofs.Handed.{handed_stands}
use Rattle.rx_engine_made_trees.proofs.laws.calls_hand_over.Goals as goal

pub returns : goal.returns
returns c = λ T A muts k R Rb os ys N e z ss ds h d r. handed_stands T A muts k R Rb os ys N e z ss ds h d r
