use Rattle.std.proofs.Common.{◌≡◌, drop}
use Rattle.rx_exits_plan.specs.Occurrences.{has_number}
use Rattle.rx_hoist_naming.proofs.pins.has_number.Given as goal

-- whether the number is there is told by those that are left
abbrev pub invariant-loop-other : goal.invariant-loop-other
invariant-loop-other l = has_number l.number (drop l.other-index l.numbers) ≡ has_number l.number l.numbers
