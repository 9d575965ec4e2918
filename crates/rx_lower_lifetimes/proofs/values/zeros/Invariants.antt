use Rattle.std.proofs.Common.{◌≡◌, replicate}
use Rattle.rx_lower_lifetimes.proofs.values.zeros.Given as goal

abbrev pub invariant-loop-zero : goal.invariant-loop-zero
invariant-loop-zero l = l.zeros.items ≡ replicate l._zero 0
