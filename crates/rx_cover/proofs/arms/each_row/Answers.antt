use Rattle.std.proofs.Common.{[], ◌∷◌, ◌++◌, ◌∙◌, sym, ap, map, drop, ◌+◌}
use Rattle.rx_typed.specs.PlainTree.{plain-Pattern, plain-Arm, arms_of}
use Rattle.rx_cover.specs.Choices.{patterns_of}
use Rattle.rx_cover.specs.Matrices.{single_rows}
use Rattle.rx_cover.specs.PlainCells.{plain-Row}
use Rattle.rx_cover.proofs.ArmLemmas.{patterns_next, row_behind}
use Rattle.rx_cover.proofs.CellLemmas.{map_append}
use Rattle.rx_cover.proofs.arms.each_row.Goals as goal

pub loop-arm-preserved : goal.loop-arm-preserved
loop-arm-preserved c =
    row_behind (map plain-Row c.loop-arm.rows) (map plain-Row c.push.new.self) (plain-Pattern c.arm-item.result.pattern ∷ []) (single_rows (patterns_of (arms_of (map plain-Arm (drop (c.loop-arm.arm-index + 1) c.args.arms.now))))) _
    (ap (map plain-Row) c.in_ok-push.ensures.ok ∙ map_append plain-Row c.loop-arm.rows (c.in_ok-row.row ∷ []) ∙ ap (λ r. map plain-Row c.loop-arm.rows ++ r ∷ []) c.in_ok-row.ensures)
    (ap (λ l. map plain-Row c.loop-arm.rows ++ l) (sym (patterns_next c.args.arms.now c.loop-arm.arm-index c.arm-item.result c.loop-arm-test.true c.arm-item.is)) ∙ c.loop-arm.invariant)
