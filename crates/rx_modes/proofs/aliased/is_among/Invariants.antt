use Rattle.std.proofs.Common.{◌≡◌, drop}
use Rattle.rx_exits_plan.specs.Occurrences.{has_number}
use Rattle.rx_modes.proofs.aliased.is_among.Given as goal

abbrev pub invariant-loop-other : goal.invariant-loop-other
invariant-loop-other l = has_number l.variable (drop l.other-index l.variables) ≡ has_number l.variable l.variables
