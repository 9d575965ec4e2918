use Rattle.std.proofs.Common.{◌≡◌, drop}
use Rattle.rx_loan.specs.Places.{strips_parts}
use Rattle.rx_loan.proofs.places.strips_parts.Given as goal

abbrev pub invariant-loop-i : goal.invariant-loop-i
invariant-loop-i l = strips_parts (drop l.i l.steps) ≡ strips_parts (drop l.from l.steps)
