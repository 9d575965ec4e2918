use Rattle.std.proofs.Common.{◌≡◌, ◌<◌, length}
use Rattle.rx_typeck_solver.specs.Parents.{rep_of}
use Rattle.rx_typeck_solver.proofs.Parenthood.{Finding}
use Rattle.rx_typeck_solver.proofs.classes.find.Given as goal

abbrev pub invariant-loop-at : goal.invariant-loop-at
invariant-loop-at l = (l.at < length l.parents.items) × Finding l.fn.parents.items l.parents.items × (rep_of l.fn.parents.items l.at ≡ rep_of l.fn.parents.items l.fn.node)

abbrev pub decreases-loop-at : goal.decreases-loop-at
decreases-loop-at l = l.at
