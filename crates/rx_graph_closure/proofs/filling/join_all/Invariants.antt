use Rattle.std.proofs.Common.{length}
use Rattle.rx_graph.proofs.Spreading.{Spreading}
use Rattle.rx_graph_closure.proofs.filling.join_all.Given as goal

abbrev pub invariant-members : goal.invariant-members
invariant-members l = Spreading (length l.row) l.fn.rows l.rows l.members l.row l.k l.grown
