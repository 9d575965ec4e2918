use Rattle.std.proofs.Common.{◌≡◌, drop}
use Rattle.rx_region.specs.Constraints.{goes_shared}
use Rattle.rx_region.proofs.reborrows.goes_shared.Given as goal

abbrev pub invariant-loop-i : goal.invariant-loop-i
invariant-loop-i l = goes_shared (drop l.i l.steps) ≡ goes_shared l.fn.steps
