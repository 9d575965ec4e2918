use Rattle.std.proofs.Common.{◌≡◌, ◌++◌, drop}
use Rattle.rx_lower_order.proofs.subject.joined.Given as goal

abbrev pub invariant-loop-step : goal.invariant-loop-step
invariant-loop-step l = l.all ++ drop l.step-index l.second ≡ l.fn.first ++ l.fn.second
