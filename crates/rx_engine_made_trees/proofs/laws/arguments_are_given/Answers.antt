use Rattle.rx_engine_made_trees.proofs.Arguments.{arguments_go}
use Rattle.rx_engine_made_trees.proofs.laws.arguments_are_given.Goals as goal

pub returns : goal.returns
returns c = λ T may R cold Rp i xs ms es hs ps a u n l. arguments_go T may R cold Rp i ps a u n l
