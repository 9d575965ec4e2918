use Rattle.std.proofs.Common.{◌≤◌, length, map, drop}
use Rattle.rx_typed.specs.Types.{shapes_of}
use Rattle.rx_typeck_solver.specs.Cells.{many, term}
use Rattle.rx_typeck_solver.specs.Growing.{Grown}
use Rattle.rx_typeck_solver.proofs.import.listed.Given as goal

abbrev pub invariant-loop-left : goal.invariant-loop-left
invariant-loop-left l = (l.left ≤ length l.entries) × Grown l.sizes l.fn.arena.entries.items l.arena.entries.items l.list (many (shapes_of (map (term l.fn.arena.entries.items) (drop l.left l.entries))))

abbrev pub decreases-loop-left : goal.decreases-loop-left
decreases-loop-left l = l.left
