use Rattle.std.proofs.Common.{}
use Rattle.rx_graph_cycles.specs.Marks.{Placed, unmarked}
use Rattle.rx_graph_cycles.proofs.placed.place_rest.Given as goal

abbrev pub invariant-loop-done : goal.invariant-loop-done
invariant-loop-done l = Placed l.edges l.done l.order.items

abbrev pub decreases-loop-done : goal.decreases-loop-done
decreases-loop-done l = unmarked l.done
