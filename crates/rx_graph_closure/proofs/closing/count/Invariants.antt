use Rattle.rx_graph_closure.proofs.Joining.{Counted}
use Rattle.rx_graph_closure.proofs.closing.count.Given as goal

abbrev pub invariant-pairs : goal.invariant-pairs
invariant-pairs l = Counted l.pairs l.least l.k l.count
