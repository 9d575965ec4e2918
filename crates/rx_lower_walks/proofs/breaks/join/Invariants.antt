use Rattle.std.proofs.Common.{◌≡◌, drop}
use Rattle.rx_lower_walks.specs.Sums.{joined}
use Rattle.rx_lower_walks.proofs.breaks.join.Given as goal

abbrev pub invariant-loop-one : goal.invariant-loop-one
invariant-loop-one l = joined l.all (drop l.one-index l.second) ≡ joined l.fn.first l.second
