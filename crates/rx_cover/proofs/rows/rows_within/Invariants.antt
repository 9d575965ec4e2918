use Rattle.std.proofs.Common.{◌≡◌, ◌++◌, map, drop}
use Rattle.rx_cover.specs.PlainCells.{plain-Head, plain-Cells}
use Rattle.rx_cover.specs.Matrices as spec
use Rattle.rx_cover.proofs.rows.rows_within.Given as goal

abbrev pub invariant-loop-i : goal.invariant-loop-i
invariant-loop-i l = map plain-Cells l.within ++ spec.rows_within (map plain-Head l.heads.keys) l.low l.high (map plain-Cells (drop l.i l.rows)) ≡ spec.rows_within (map plain-Head l.fn.heads.keys) l.fn.low l.fn.high (map plain-Cells l.fn.rows)
