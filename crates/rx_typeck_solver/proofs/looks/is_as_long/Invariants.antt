use Rattle.std.proofs.Common.{◌≡◌, length, nat_eq}
use Rattle.rx_typed.specs.Types.{shapes_listed}
use Rattle.rx_typeck_solver.specs.Cells.{cell, shapes_in, IsList}
use Rattle.rx_typeck_solver.proofs.looks.is_as_long.Given as goal

abbrev pub invariant-loop-others : goal.invariant-loop-others
invariant-loop-others l = IsList l.arena.entries.items l.at × (nat_eq (length (shapes_listed (shapes_in (cell l.arena.entries.items l.at)))) l.left ≡ nat_eq (length (shapes_listed (shapes_in (cell l.arena.entries.items l.fn.list)))) l.fn.count)

abbrev pub decreases-loop-others : goal.decreases-loop-others
decreases-loop-others l = l.at
