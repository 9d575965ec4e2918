use Rattle.std.proofs.Common.{◌≡◌, ◌++◌, drop}
use Rattle.rx_compact_lifetimes.specs.Merged.{mergings}
use Rattle.rx_compact_known.specs.Knowing.{knows}
use Rattle.rx_compact_functions.proofs.merging.mergings.Given as goal

abbrev pub invariant-loop-number : goal.invariant-loop-number
invariant-loop-number l = l.all ++ mergings (knows l.known) l.lifetimes l.number (drop l.number l.lifetimes) ≡ mergings (knows l.known) l.lifetimes 0 l.lifetimes
