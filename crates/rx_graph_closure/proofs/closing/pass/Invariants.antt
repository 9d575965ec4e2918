use Rattle.std.proofs.Common.{◌≡◌, length}
use Rattle.rx_graph_closure.specs.Closing.{Passed}
use Rattle.rx_graph_closure.proofs.closing.pass.Given as goal

abbrev pub invariant-places : goal.invariant-places
invariant-places l = Passed l.pairs (length l.fn.scratch) l.fn.rows l.rows × (length l.scratch ≡ length l.fn.scratch)
