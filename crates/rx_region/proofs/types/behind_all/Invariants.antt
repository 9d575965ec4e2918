use Rattle.rx_region.proofs.Counting.{Counted}
use Rattle.rx_region.proofs.types.behind_all.Given as goal

abbrev pub invariant-loop-k : goal.invariant-loop-k
invariant-loop-k l = Counted l.lifetimes l.fn.least l.k l.count
