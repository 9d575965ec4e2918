use Rattle.std.proofs.Common.{◌≡◌, ◌++◌, map, drop}
use Rattle.rx_cover.specs.PlainCells.{plain-Row, plain-Cells}
use Rattle.rx_cover.proofs.rows.all_rows.Given as goal

abbrev pub invariant-loop-row : goal.invariant-loop-row
invariant-loop-row l = map plain-Cells l.all ++ map plain-Row (drop l.row-index l.rows) ≡ map plain-Row l.fn.rows
