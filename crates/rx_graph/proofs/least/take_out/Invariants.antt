use Rattle.rx_graph.proofs.Rows.{Taking}
use Rattle.rx_graph.proofs.least.take_out.Given as goal

abbrev pub invariant-facts : goal.invariant-facts
invariant-facts l = Taking l.fn.row l.row l.facts l.k
