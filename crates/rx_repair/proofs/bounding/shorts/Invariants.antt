use Rattle.std.proofs.Common.{◌≡◌, ◌++◌, drop}
use Rattle.rx_repair.specs.Repaired.{shorts_from}
use Rattle.rx_repair.proofs.bounding.shorts.Given as goal

abbrev pub invariant-loop-k : goal.invariant-loop-k
invariant-loop-k l = l.names ++ shorts_from l.span l.bounds l.long l.k (drop l.k l.lifetimes) ≡ shorts_from l.span l.bounds l.long 0 l.lifetimes
