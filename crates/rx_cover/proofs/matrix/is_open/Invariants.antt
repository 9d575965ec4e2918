use Rattle.std.proofs.Common.{◌≡◌, drop}
use Rattle.rx_cover.specs.PlainCells.{plain-Row}
use Rattle.rx_cover.specs.Matrices as spec
use Rattle.rx_cover.proofs.matrix.is_open.Given as goal

abbrev pub invariant-loop-i : goal.invariant-loop-i
invariant-loop-i l = spec.is_open (plain-Row (drop l.i l.row)) ≡ spec.is_open (plain-Row l.fn.row)
