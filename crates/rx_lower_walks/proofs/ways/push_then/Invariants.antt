use Rattle.std.proofs.Common.{◌≡◌, ◌++◌, drop}
use Rattle.rx_lower_walks.specs.Sums.{moved, then_begins}
use Rattle.rx_lower_walks.proofs.ways.push_then.Given as goal

abbrev pub invariant-loop-begin : goal.invariant-loop-begin
invariant-loop-begin l = l.all ++ then_begins l.way (drop l.begin-index l.begins) (moved l.size l.behind) ≡ l.fn.all ++ then_begins l.way l.begins (moved l.size l.behind)
