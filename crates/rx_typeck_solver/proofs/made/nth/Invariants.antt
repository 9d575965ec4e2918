use Rattle.std.proofs.Common.{◌≡◌, slice_get}
use Rattle.rx_typed.specs.Types.{shapes_listed}
use Rattle.rx_typeck_solver.specs.Cells.{cell, shapes_in, IsList}
use Rattle.rx_typeck_solver.proofs.made.nth.Given as goal

abbrev pub invariant-loop-first : goal.invariant-loop-first
invariant-loop-first l = IsList l.arena.entries.items l.at × (slice_get (shapes_listed (shapes_in (cell l.arena.entries.items l.at))) l.left ≡ slice_get (shapes_listed (shapes_in (cell l.arena.entries.items l.fn.list))) l.fn.number)

abbrev pub decreases-loop-first : goal.decreases-loop-first
decreases-loop-first l = l.at
