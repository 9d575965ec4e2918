-- The calls so far are added.
use Rattle.std.proofs.Common.{◌≡◌, ◌++◌}
use Rattle.rx_rem_generated.specs.Generated as spec
use Rattle.rx_rem_generated.proofs.text.push_calls.Given as goal

abbrev pub invariant-loop-number : goal.invariant-loop-number
invariant-loop-number l = l.text ≡ l.fn.text ++ spec.calls l.number
