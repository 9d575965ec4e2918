use Rattle.std.proofs.Common.{◌≡◌, drop}
use Rattle.rx_loan.specs.Places.{strips_unshared}
use Rattle.rx_loan.proofs.places.strips_unshared.Given as goal

abbrev pub invariant-loop-i : goal.invariant-loop-i
invariant-loop-i l = strips_unshared (drop l.i l.steps) ≡ strips_unshared (drop l.from l.steps)
