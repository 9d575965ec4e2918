use Rattle.std.proofs.Common.{◌+◌, sym, ◌∙◌, map, drop}
use Rattle.rx_typed.specs.PlainTree.{plain-Operand, plain-Arm, operands_of, arms_of}
use Rattle.rx_exits_jumps.specs.Broken as broken
use Rattle.rx_exits_jumps.proofs.TestTurns.{or_next, or_found, operand_breaks, arm_breaks}
use Rattle.rx_exits_jumps.proofs.breaking.+breaking.Goals as goal

pub breaks_in-loop-operand-preserved : goal.breaks_in-loop-operand-preserved
breaks_in-loop-operand-preserved t c =
    or_next (λ xs. broken.breaks_in c.args.number (operands_of (map plain-Operand xs))) c.args.operands.now c.loop-operand.operand-index c.operand-item.result _ _ c.loop-operand-test.true c.operand-item.is
    (operand_breaks c.args.number c.operand-item.result (drop (c.loop-operand.operand-index + 1) c.args.operands.now)) (sym c.breaks.ensures ∙ c.if-breaks.false) c.loop-operand.invariant

pub breaks_in-returns-then-breaks : goal.breaks_in-returns-then-breaks
breaks_in-returns-then-breaks t c =
    or_found (λ xs. broken.breaks_in c.args.number (operands_of (map plain-Operand xs))) c.args.operands.now c.loop-operand.operand-index c.operand-item.result _ _ c.loop-operand-test.true c.operand-item.is
    (operand_breaks c.args.number c.operand-item.result (drop (c.loop-operand.operand-index + 1) c.args.operands.now)) (sym c.breaks.ensures ∙ c.if-breaks.true) c.loop-operand.invariant

pub breaks_armed-loop-arm-preserved : goal.breaks_armed-loop-arm-preserved
breaks_armed-loop-arm-preserved t c =
    or_next (λ xs. broken.breaks_armed c.args.number (arms_of (map plain-Arm xs))) c.args.arms.now c.loop-arm.arm-index c.arm-item.result _ _ c.loop-arm-test.true c.arm-item.is
    (arm_breaks c.args.number c.arm-item.result (drop (c.loop-arm.arm-index + 1) c.args.arms.now)) (sym c.breaks.ensures ∙ c.if-breaks.false) c.loop-arm.invariant

pub breaks_armed-returns-then-breaks : goal.breaks_armed-returns-then-breaks
breaks_armed-returns-then-breaks t c =
    or_found (λ xs. broken.breaks_armed c.args.number (arms_of (map plain-Arm xs))) c.args.arms.now c.loop-arm.arm-index c.arm-item.result _ _ c.loop-arm-test.true c.arm-item.is
    (arm_breaks c.args.number c.arm-item.result (drop (c.loop-arm.arm-index + 1) c.args.arms.now)) (sym c.breaks.ensures ∙ c.if-breaks.true) c.loop-arm.invariant
