-- It is one of all exactly where it is one of those that are left.
use Rattle.std.proofs.Common.{◌≡◌, drop}
use Rattle.rx_exits_plan.specs.Occurrences.{has_number}
use Rattle.rx_exits.proofs.listed.is_listed.Given as goal

abbrev pub invariant-loop-other : goal.invariant-loop-other
invariant-loop-other l = has_number l.variable (drop l.other-index l.all) ≡ has_number l.variable l.all
