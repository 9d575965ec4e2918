use Rattle.std.proofs.Common.{ℕ, length}
use Rattle.rx_graph.specs.Tables.{Regular}
use Rattle.rx_graph_closure.specs.Filling.{Added}
use Rattle.rx_compact_known.proofs.Closing.{Own}
use Rattle.rx_compact_known.proofs.closed.insert_each.Given as goal

abbrev pub invariant-members : goal.invariant-members
invariant-members l = (w : ℕ) → Regular (length l.fn.rows) w l.fn.rows → Added w l.fn.rows l.rows (Own l.k)
