use Rattle.std.proofs.Common.{◌≡◌, ◌++◌, map, drop}
use Rattle.rx_cover.specs.PlainCells.{plain-Column}
use Rattle.rx_cover.proofs.rows.push_columns.Given as goal

abbrev pub invariant-loop-i : goal.invariant-loop-i
invariant-loop-i l = map plain-Column l.columns ++ map plain-Column (drop l.i l.from) ≡ map plain-Column l.fn.columns ++ map plain-Column l.fn.from
