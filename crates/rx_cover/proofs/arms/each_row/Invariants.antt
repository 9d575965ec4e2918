use Rattle.std.proofs.Common.{◌≡◌, ◌++◌, map, drop}
use Rattle.rx_typed.specs.PlainTree.{plain-Arm, arms_of}
use Rattle.rx_cover.specs.Choices.{patterns_of}
use Rattle.rx_cover.specs.Matrices.{single_rows}
use Rattle.rx_cover.specs.PlainCells.{plain-Row}
use Rattle.rx_cover.proofs.arms.each_row.Given as goal

abbrev pub invariant-loop-arm : goal.invariant-loop-arm
invariant-loop-arm l = map plain-Row l.rows ++ single_rows (patterns_of (arms_of (map plain-Arm (drop l.arm-index l.arms)))) ≡ single_rows (patterns_of (arms_of (map plain-Arm l.fn.arms)))
