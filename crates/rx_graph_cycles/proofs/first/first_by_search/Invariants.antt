use Rattle.rx_graph_cycles.specs.Reaches.{NoneBefore}
use Rattle.rx_graph_cycles.proofs.first.first_by_search.Given as goal

abbrev pub invariant-loop-i : goal.invariant-loop-i
invariant-loop-i l = NoneBefore l.edges l.i
