use Rattle.std.proofs.Common.{◌≡◌, drop}
use Rattle.rx_compact_lifetimes.specs.Merged.{first_equal}
use Rattle.rx_compact_known.specs.Knowing.{knows}
use Rattle.rx_compact_functions.proofs.merging.first_equal.Given as goal

abbrev pub invariant-loop-k : goal.invariant-loop-k
invariant-loop-k l = first_equal (knows l.known) l.number l.k (drop l.k l.lifetimes) l.name ≡ first_equal (knows l.known) l.number 0 l.lifetimes l.name
