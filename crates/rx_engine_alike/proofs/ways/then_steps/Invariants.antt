-- What is left of both, from the way so far, is as from their beginning.
use Rattle.std.proofs.Common.{◌≡◌, length}
use Rattle.rx_engine_alike.specs.Ways.{then_steps}
use Rattle.rx_engine_alike.specs.PlainWays.{plain-Way}
use Rattle.rx_engine_alike.proofs.ways.then_steps.Given as goal

abbrev pub invariant-loop-left : goal.invariant-loop-left
invariant-loop-left l = then_steps (plain-Way l.way) l.left l.right ≡ then_steps (plain-Way l.fn.way) l.fn.steps l.fn.others

abbrev pub decreases-loop-left : goal.decreases-loop-left
decreases-loop-left l = length l.left
