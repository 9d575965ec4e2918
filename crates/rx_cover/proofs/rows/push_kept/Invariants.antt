use Rattle.std.proofs.Common.{◌≡◌, ◌++◌, drop}
use Rattle.rx_cover.specs.Heads.{parts_in}
use Rattle.rx_cover.specs.PlainCells.{plain-Cell, plain-Row}
use Rattle.rx_cover.specs.Matrices as spec
use Rattle.rx_cover.proofs.rows.push_kept.Given as goal

abbrev pub invariant-loop-i : goal.invariant-loop-i
invariant-loop-i l = (rest : spec.Row) → plain-Row l.row ++ spec.kept_parts (drop l.i l.mask) l.i (parts_in (plain-Cell l.cell)) rest ≡ plain-Row l.fn.row ++ spec.kept_parts l.fn.mask 0 (parts_in (plain-Cell l.fn.cell)) rest
