use Rattle.std.proofs.Common.{◌≡◌, drop}
use Rattle.rx_lower_walks.specs.Sums.{has}
use Rattle.rx_lower_walks.proofs.breaks.has.Given as goal

abbrev pub invariant-loop-one : goal.invariant-loop-one
invariant-loop-one l = has l.number (drop l.one-index l.among) ≡ has l.number l.among
