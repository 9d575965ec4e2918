use Rattle.rx_region.proofs.Counting.{TypesCounted}
use Rattle.rx_region.proofs.types.behind_types.Given as goal

abbrev pub invariant-loop-k : goal.invariant-loop-k
invariant-loop-k l = TypesCounted l.types l.fn.least l.k l.count
