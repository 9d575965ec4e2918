use Rattle.rx_graph.proofs.Rows.{Putting}
use Rattle.rx_graph.proofs.least.put_in.Given as goal

abbrev pub invariant-facts : goal.invariant-facts
invariant-facts l = Putting l.fn.row l.row l.facts l.k
