use Rattle.std.proofs.Common.{◌≡◌, drop}
use Rattle.rx_region.specs.Constraints.{is_among}
use Rattle.rx_region.proofs.whole.is_among.Given as goal

abbrev pub invariant-loop-i : goal.invariant-loop-i
invariant-loop-i l = is_among l.variable (drop l.i l.variables) ≡ is_among l.fn.variable l.fn.variables
