-- Those so far are picked of the list so far.
use Rattle.std.proofs.Common.{◌≡◌, take}
use Rattle.rx_exits_plan.specs.Occurrences.{those}
use Rattle.rx_exits.specs.Choosing.{picks}
use Rattle.rx_exits.proofs.choosing.picked.Given as goal

abbrev pub invariant-loop-variable : goal.invariant-loop-variable
invariant-loop-variable l = l.some ≡ those (picks l.pick) (take l.variable-index l.all)
