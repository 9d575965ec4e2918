use Rattle.std.proofs.Common.{◌≡◌, ◌++◌, map, drop}
use Rattle.rx_cover.specs.PlainCells.{plain-Row}
use Rattle.rx_cover.specs.Matrices as spec
use Rattle.rx_cover.proofs.rows.rows_beside.Given as goal

abbrev pub invariant-loop-row : goal.invariant-loop-row
invariant-loop-row l = map plain-Row l.beside ++ spec.rows_beside (map plain-Row (drop l.row-index l.rows)) ≡ spec.rows_beside (map plain-Row l.fn.rows)
