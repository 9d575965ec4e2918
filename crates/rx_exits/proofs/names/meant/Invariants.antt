-- What the name means is what it means by those that are left.
use Rattle.std.proofs.Common.{◌≡◌, drop}
use Rattle.rx_exits_plan.specs.Shadowed.{meant}
use Rattle.rx_exits.specs.Refusing.{same_name}
use Rattle.rx_exits.proofs.names.meant.Given as goal

abbrev pub invariant-loop-other : goal.invariant-loop-other
invariant-loop-other l = meant (same_name l.names) l.variable (drop l.other-index l.scope) ≡ meant (same_name l.names) l.variable l.scope
