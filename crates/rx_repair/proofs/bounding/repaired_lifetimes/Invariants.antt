use Rattle.std.proofs.Common.{◌≡◌, ◌++◌, drop}
use Rattle.rx_repair.specs.Repaired.{lifetimes_from}
use Rattle.rx_repair.proofs.bounding.repaired_lifetimes.Given as goal

abbrev pub invariant-loop-l : goal.invariant-loop-l
invariant-loop-l l = l.all ++ lifetimes_from l.span l.bounds l.lifetimes l.l (drop l.l l.lifetimes) ≡ lifetimes_from l.span l.bounds l.lifetimes 0 l.lifetimes
