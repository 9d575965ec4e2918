use Rattle.std.proofs.Common.{◌≡◌, ◌<◌, true, length}
use Rattle.rx_graph_bits.specs.Rows.{holds}
use Rattle.rx_graph_closure.specs.Filling.{Added}
use Rattle.rx_graph_closure.proofs.filling.join_first.Given as goal

abbrev pub invariant-members : goal.invariant-members
invariant-members l = Added (length l.row) l.fn.rows l.rows (λ m i. (m < l.k) × (holds l.row i ≡ true))
