use Rattle.std.proofs.Common.{◌≡◌}
use Rattle.rx_typed.specs.Types.{peeled}
use Rattle.rx_typeck_solver.specs.Cells.{term, IsTerm}
use Rattle.rx_typeck_solver.proofs.tables.peeled.Given as goal

abbrev pub invariant-loop-to : goal.invariant-loop-to
invariant-loop-to l = IsTerm l.arena.entries.items l.at × (peeled (term l.arena.entries.items l.at) ≡ peeled (term l.arena.entries.items l.fn.entry))

abbrev pub decreases-loop-to : goal.decreases-loop-to
decreases-loop-to l = l.at
