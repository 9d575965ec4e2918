-- None so far is the run's end.
use Rattle.std.proofs.Common.{take, map}
use Rattle.rx_exits_plan.specs.Points.{next}
use Rattle.rx_exits_plan.specs.PlainPlan.{plain-Exit}
use Rattle.rx_lower_walks.specs.Walks.{Among}
use Rattle.rx_exits.proofs.reaching.has_end.Given as goal

abbrev pub invariant-loop-exit : goal.invariant-loop-exit
invariant-loop-exit l = ¬ (Among next (map plain-Exit (take l.exit-index l.exits)))
