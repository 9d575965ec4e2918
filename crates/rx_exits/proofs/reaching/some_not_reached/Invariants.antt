-- To each so far a walk comes.
use Rattle.std.proofs.Common.{take, map}
use Rattle.rx_exits_plan.specs.PlainPlan.{plain-Exit}
use Rattle.rx_exits_plan.specs.Asked.{Asked}
use Rattle.rx_exits.specs.Points.{IsPoints}
use Rattle.rx_exits_plan.specs.PlainSyntax.{plain-Jump}
use Rattle.rx_exits.specs.Reaching.{AllLeft}
use Rattle.rx_exits.proofs.reaching.some_not_reached.Given as goal

abbrev pub invariant-loop-exit : goal.invariant-loop-exit
invariant-loop-exit l = (A : Asked) → IsPoints A l.points → AllLeft A (map plain-Exit (take l.exit-index l.exits)) (map plain-Jump l.jumps)
