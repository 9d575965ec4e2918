use Rattle.rx_engine_made_trees.proofs.Leaving.{returned_as}
use Rattle.rx_engine_made_trees.proofs.laws.jumps_are_returned.Goals as goal

pub returns : goal.returns
returns c = λ T items gain U special J R e f h. returned_as T items gain U special J R e f h
