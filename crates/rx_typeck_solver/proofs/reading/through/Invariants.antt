use Rattle.std.proofs.Common.{◌≡◌}
use Rattle.rx_typed.specs.Types.{references}
use Rattle.rx_typeck_solver.specs.Cells.{term, IsTerm}
use Rattle.rx_typeck_solver.specs.Reading.{both, summed}
use Rattle.rx_typeck_solver.proofs.reading.through.Given as goal

abbrev pub invariant-loop-mutable : goal.invariant-loop-mutable
invariant-loop-mutable l = IsTerm l.arena.entries.items l.at × (both l.sum (summed (references (term l.arena.entries.items l.at))) ≡ summed (references (term l.arena.entries.items l.fn.entry)))

abbrev pub decreases-loop-mutable : goal.decreases-loop-mutable
decreases-loop-mutable l = l.at
