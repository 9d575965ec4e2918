use Rattle.std.proofs.Common.{◌≡◌, ◌++◌, drop}
use Rattle.rx_compact_known.proofs.said.add_bounds.Given as goal

abbrev pub invariant-loop-bound : goal.invariant-loop-bound
invariant-loop-bound l = l.pairs ++ drop l.bound-index l.bounds ≡ l.fn.pairs ++ l.fn.bounds
