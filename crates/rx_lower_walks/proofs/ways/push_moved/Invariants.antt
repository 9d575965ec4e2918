use Rattle.std.proofs.Common.{◌≡◌, ◌++◌, drop}
use Rattle.rx_lower_walks.specs.Sums.{moved}
use Rattle.rx_lower_walks.proofs.ways.push_moved.Given as goal

abbrev pub invariant-loop-begin : goal.invariant-loop-begin
invariant-loop-begin l = l.all ++ moved l.size (drop l.begin-index l.begins) ≡ l.fn.all ++ moved l.size l.begins
