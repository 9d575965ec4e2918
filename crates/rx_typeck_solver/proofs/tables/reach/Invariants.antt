use Rattle.std.proofs.Common.{◌+◌, ◌-◌, length}
use Rattle.rx_typeck_solver.proofs.States.{Reached}
use Rattle.rx_typeck_solver.proofs.tables.reach.Given as goal

abbrev pub invariant-loop-classes : goal.invariant-loop-classes
invariant-loop-classes l = Reached l.fn.classes.parents.items l.classes.parents.items l.fn.classes.sets.items l.classes.sets.items

abbrev pub decreases-loop-classes : goal.decreases-loop-classes
decreases-loop-classes l = l.node + 1 - length l.classes.parents.items
