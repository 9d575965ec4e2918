use Rattle.std.proofs.Common.{◌≡◌, ◌++◌, map, drop}
use Rattle.rx_cover.specs.PlainCells.{plain-Head, plain-Row, plain-Cells}
use Rattle.rx_cover.specs.Matrices as spec
use Rattle.rx_cover.proofs.rows.rows_under.Given as goal

abbrev pub invariant-loop-row : goal.invariant-loop-row
invariant-loop-row l = map plain-Row l.under ++ spec.rows_under (plain-Head l.head) l.mask (map plain-Cells (drop l.row-index l.rows)) ≡ spec.rows_under (plain-Head l.fn.head) l.fn.mask (map plain-Cells l.fn.rows)
