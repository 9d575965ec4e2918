use Rattle.std.proofs.Common.{◌≡◌, map, drop}
use Rattle.rx_cover.specs.PlainCells.{plain-Row}
use Rattle.rx_cover.specs.Matrices as spec
use Rattle.rx_cover.proofs.matrix.some_open.Given as goal

abbrev pub invariant-loop-row : goal.invariant-loop-row
invariant-loop-row l = spec.some_open (map plain-Row (drop l.row-index l.rows)) ≡ spec.some_open (map plain-Row l.fn.rows)
