use Rattle.std.proofs.Common.{◌≡◌, length}
use Rattle.rx_graph_closure.specs.Closing.{Grown}
use Rattle.rx_graph_closure.proofs.Joining.{Before}
use Rattle.rx_graph_closure.proofs.closing.round.Given as goal

abbrev pub invariant-places : goal.invariant-places
invariant-places l = Grown l.pairs (length l.fn.scratch) (Before l.pairs l.k) l.fn.rows l.rows l.grown × (length l.scratch ≡ length l.fn.scratch)
