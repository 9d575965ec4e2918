use Rattle.rx_engine_made_trees.proofs.Entering.{enters_so}
use Rattle.rx_engine_made_trees.proofs.laws.new_functions_are_entered.Goals as goal

pub returns : goal.returns
returns c = λ T may R cold k modes es hs ps ls N. enters_so T may R cold k modes es hs ps ls N
