use Rattle.rx_graph_cycles.proofs.Deciding.{first_on_cycle}
use Rattle.rx_graph_cycles.proofs.laws.some_first_on_cycle.Goals as goal

pub returns : goal.returns
returns c edges = first_on_cycle edges
