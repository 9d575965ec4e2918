use Rattle.std.proofs.Common.{◌≡◌, length}
use Rattle.rx_graph.proofs.Rounds.{rounds_left}
use Rattle.rx_graph_closure.proofs.Joining.{Going}
use Rattle.rx_graph_closure.proofs.closing.settle.Given as goal

abbrev pub invariant-rounds : goal.invariant-rounds
invariant-rounds l = Going l.pairs (length l.fn.scratch) l.fn.rows l.rows l.grown × (length l.scratch ≡ length l.fn.scratch)

abbrev pub decreases-rounds : goal.decreases-rounds
decreases-rounds l = rounds_left (length l.fn.scratch) (length l.fn.rows) l.rows l.grown
