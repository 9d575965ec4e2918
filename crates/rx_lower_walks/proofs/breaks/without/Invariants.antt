use Rattle.std.proofs.Common.{◌≡◌, ◌++◌, drop}
use Rattle.rx_lower_walks.specs.Sums.{without}
use Rattle.rx_lower_walks.proofs.breaks.without.Given as goal

abbrev pub invariant-loop-one : goal.invariant-loop-one
invariant-loop-one l = l.kept ++ without l.number (drop l.one-index l.among) ≡ without l.number l.among
