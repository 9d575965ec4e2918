use Rattle.std.proofs.Common.{◌≡◌, [], ◌∷◌, ◌++◌, drop}
use Rattle.rx_lower_walks.specs.declared.sums.Way.TheVariants.{Ahead, Failing}
use Rattle.rx_lower_walks.specs.declared.sums.Begin.TheVariants.{Starts}
use Rattle.rx_lower_walks.specs.Sums.{then_begins}
use Rattle.rx_lower_walks.proofs.ways.ended.Given as goal

abbrev pub invariant-loop-begin : goal.invariant-loop-begin
invariant-loop-begin l = l.all ++ then_begins Ahead (then_begins Failing (drop l.begin-index l.begins) []) (Starts l.size ∷ []) ≡ then_begins Ahead (then_begins Failing l.begins []) (Starts l.size ∷ [])
