use Rattle.std.proofs.Common.{◌≡◌, ℕ, ◌*◌, ◌<◌, true, length}
use Rattle.rx_graph_bits.specs.Rows.{holds}
use Rattle.rx_graph.proofs.worklist.note_all.Given as goal

abbrev pub invariant-sites : goal.invariant-sites
invariant-sites l = (length l.pending ≡ length l.fn.pending) × ((q : ℕ) → q < l.k → q < 64 * length l.fn.pending → holds l.pending q ≡ true)
