use Rattle.std.proofs.Common.{◌≡◌, drop}
use Rattle.rx_modes.specs.Told.{first_without}
use Rattle.rx_modes.proofs.choosing.first_without.Given as goal

abbrev pub invariant-loop-i : goal.invariant-loop-i
invariant-loop-i l = first_without (drop l.i l.params) (drop l.i l.uses) ≡ first_without l.params l.uses
