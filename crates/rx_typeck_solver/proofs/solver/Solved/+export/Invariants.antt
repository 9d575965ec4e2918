use Rattle.std.proofs.Common.{◌≡◌, ◌≤◌, map}
use Rattle.rx_typed.specs.PlainTypes.{declarations}
use Rattle.rx_typed.specs.Regions.{region-Ty}
use Rattle.rx_typeck_solver.specs.Cells.{IsList}
use Rattle.rx_typeck_solver.specs.Views.{typs_at, all_unnumbered, regions_then}
use Rattle.rx_typeck_solver.proofs.solver.Solved.+export.Given as goal

abbrev pub decreases-typ : goal.decreases-typ
decreases-typ l = l.entry

abbrev pub decreases-types : goal.decreases-types
decreases-types l = l.list

abbrev pub invariant-types-loop-first : goal.invariant-types-loop-first
invariant-types-loop-first l = IsList l.self.arena.entries.items l.at × (l.at ≤ l.fn.list)
    × (all_unnumbered (declarations l.fn.items) (typs_at l.self l.fn.list) ≡ regions_then (map region-Ty l.all) (all_unnumbered (declarations l.fn.items) (typs_at l.self l.at)))

abbrev pub decreases-types-loop-first : goal.decreases-types-loop-first
decreases-types-loop-first l = l.at
