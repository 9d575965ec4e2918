-- The numbers so far are made.
use Rattle.std.proofs.Common.{◌≡◌}
use Rattle.rx_rem_generated.specs.Generated as spec
use Rattle.rx_rem_generated.proofs.numbers.input.Given as goal

abbrev pub invariant-loop-number : goal.invariant-loop-number
invariant-loop-number l = l.all.items ≡ spec.input l.number
