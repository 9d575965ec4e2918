use Rattle.std.proofs.Common.{◌≡◌, drop}
use Rattle.rx_repair.specs.Repaired.{is_bound}
use Rattle.rx_repair.proofs.bounding.is_bound.Given as goal

abbrev pub invariant-loop-bound : goal.invariant-loop-bound
invariant-loop-bound l = is_bound (drop l.bound-index l.bounds) l.long l.short ≡ is_bound l.bounds l.long l.short
