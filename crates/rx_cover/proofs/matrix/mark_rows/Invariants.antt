use Rattle.std.proofs.Common.{◌≡◌, map, drop}
use Rattle.rx_cover.specs.PlainCells.{plain-Head, plain-Cells}
use Rattle.rx_cover.specs.Matrices as spec
use Rattle.rx_cover.proofs.matrix.mark_rows.Given as goal

abbrev pub invariant-loop-row : goal.invariant-loop-row
invariant-loop-row l = spec.mark_rows (plain-Head l.head) l.mask.items (map plain-Cells (drop l.row-index l.rows)) ≡ spec.mark_rows (plain-Head l.fn.head) l.fn.mask.items (map plain-Cells l.fn.rows)
