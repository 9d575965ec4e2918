use Rattle.rx_engine_made_trees.proofs.Standing.{ends_so}
use Rattle.rx_engine_made_trees.proofs.laws.new_functions_end_so.Goals as goal

pub returns : goal.returns
returns c = λ T items gain U special J R n o l w xs h. ends_so T items gain U special J R n o l w xs h
