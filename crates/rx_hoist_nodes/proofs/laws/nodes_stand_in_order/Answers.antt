use Rattle.rx_hoist_nodes.proofs.Within.{below_is}
use Rattle.rx_hoist_nodes.proofs.laws.nodes_stand_in_order.Goals as goal

pub returns : goal.returns
returns c = below_is
