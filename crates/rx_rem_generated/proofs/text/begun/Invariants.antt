-- The functions so far are there.
use Rattle.std.proofs.Common.{◌≡◌}
use Rattle.rx_rem_generated.specs.Generated as spec
use Rattle.rx_rem_generated.proofs.text.begun.Given as goal

abbrev pub invariant-loop-number : goal.invariant-loop-number
invariant-loop-number l = l.text ≡ spec.begun l.number
