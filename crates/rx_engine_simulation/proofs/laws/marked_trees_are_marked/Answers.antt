use Rattle.rx_engine_simulation.proofs.Marking.{trees_marked}
use Rattle.rx_engine_simulation.proofs.laws.marked_trees_are_marked.Goals as goal

pub returns : goal.returns
returns c = trees_marked
