use Rattle.std.proofs.Common.{◌≡◌, ◌++◌, drop}
use Rattle.rx_lower_walks.specs.Sums.{round}
use Rattle.rx_lower_walks.proofs.ways.rounded.Given as goal

abbrev pub invariant-loop-begin : goal.invariant-loop-begin
invariant-loop-begin l = l.all ++ round l.number (drop l.begin-index l.begins) ≡ round l.number l.begins
