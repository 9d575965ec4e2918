use Rattle.std.proofs.Common.{◌≡◌, ◌++◌, drop}
use Rattle.rx_cover.specs.PlainCells.{plain-Row}
use Rattle.rx_cover.specs.Matrices as spec
use Rattle.rx_cover.proofs.rows.push_rest.Given as goal

abbrev pub invariant-loop-i : goal.invariant-loop-i
invariant-loop-i l = plain-Row l.row ++ plain-Row (drop l.i l.from) ≡ plain-Row l.fn.row ++ spec.rest_of (plain-Row l.fn.from)
