use Rattle.std.proofs.Common.{◌≡◌, [], ◌++◌, map, drop, length, ◌≤◌}
use Rattle.rx_cover.specs.PlainCells.{plain-Column}
use Rattle.rx_cover.specs.Matrices as spec
use Rattle.rx_cover.proofs.rows.push_kept_columns.Given as goal

abbrev pub invariant-loop-i : goal.invariant-loop-i
invariant-loop-i l = (map plain-Column l.columns ++ spec.kept_types (drop l.i l.mask) (map plain-Column (drop l.i l.from)) [] ≡ map plain-Column l.fn.columns ++ spec.kept_types l.fn.mask (map plain-Column l.fn.from) []) × (l.i ≤ length l.from)
