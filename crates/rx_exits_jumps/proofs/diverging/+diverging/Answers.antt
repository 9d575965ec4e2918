use Rattle.std.proofs.Common.{◌+◌, not, ap, sym, ◌∙◌, map, drop}
use Rattle.rx_typed.specs.Tree.{loop}
use Rattle.rx_typed.specs.PlainTree.{plain-Expr, plain-Mark, plain-Operand, plain-Arm, operands_of, arms_of}
use Rattle.rx_exits_plan.specs.Diverging as diverging
use Rattle.rx_exits_plan.specs.PlainSyntax.{plain-Statement}
use Rattle.rx_exits_jumps.proofs.TestTurns.{or_next, or_found, and_next, and_found, operand_diverges, arm_diverges}
use Rattle.rx_exits_jumps.proofs.BrokenLemmas.{any_more, choosing_loop, other_loop}
use Rattle.rx_exits_jumps.proofs.diverging.+diverging.Goals as goal

pub some_diverges-loop-operand-preserved : goal.some_diverges-loop-operand-preserved
some_diverges-loop-operand-preserved t c =
    or_next (λ xs. diverging.some_diverges (operands_of (map plain-Operand xs))) c.args.operands.now c.loop-operand.operand-index c.operand-item.result _ _ c.loop-operand-test.true c.operand-item.is
    (operand_diverges c.operand-item.result (drop (c.loop-operand.operand-index + 1) c.args.operands.now)) (sym c.diverges.ensures ∙ c.if-diverges.false) c.loop-operand.invariant

pub some_diverges-returns-then-diverges : goal.some_diverges-returns-then-diverges
some_diverges-returns-then-diverges t c =
    or_found (λ xs. diverging.some_diverges (operands_of (map plain-Operand xs))) c.args.operands.now c.loop-operand.operand-index c.operand-item.result _ _ c.loop-operand-test.true c.operand-item.is
    (operand_diverges c.operand-item.result (drop (c.loop-operand.operand-index + 1) c.args.operands.now)) (sym c.diverges.ensures ∙ c.if-diverges.true) c.loop-operand.invariant

pub all_diverge-loop-arm-preserved : goal.all_diverge-loop-arm-preserved
all_diverge-loop-arm-preserved t c =
    and_next (λ xs. diverging.all_diverge (arms_of (map plain-Arm xs))) c.args.arms.now c.loop-arm.arm-index c.arm-item.result _ _ c.loop-arm-test.true c.arm-item.is
    (arm_diverges c.arm-item.result (drop (c.loop-arm.arm-index + 1) c.args.arms.now)) (sym c.diverges.ensures ∙ c.if-not-diverges.false) c.loop-arm.invariant

pub all_diverge-returns-then-not-diverges : goal.all_diverge-returns-then-not-diverges
all_diverge-returns-then-not-diverges t c =
    and_found (λ xs. diverging.all_diverge (arms_of (map plain-Arm xs))) c.args.arms.now c.loop-arm.arm-index c.arm-item.result _ _ c.loop-arm-test.true c.arm-item.is
    (arm_diverges c.arm-item.result (drop (c.loop-arm.arm-index + 1) c.args.arms.now)) (sym c.diverges.ensures ∙ c.if-not-diverges.true) c.loop-arm.invariant

pub any_diverges-loop-stmt-preserved : goal.any_diverges-loop-stmt-preserved
any_diverges-loop-stmt-preserved t c =
    or_next (λ xs. diverging.any_diverges (map plain-Statement xs)) c.args.stmts.now c.loop-stmt.stmt-index c.stmt-item.result _ _ c.loop-stmt-test.true c.stmt-item.is
    (any_more (plain-Statement c.stmt-item.result) (map plain-Statement (drop (c.loop-stmt.stmt-index + 1) c.args.stmts.now))) (sym c.stmt_diverges.ensures ∙ c.if-stmt_diverges.false) c.loop-stmt.invariant

pub any_diverges-returns-then-stmt_diverges : goal.any_diverges-returns-then-stmt_diverges
any_diverges-returns-then-stmt_diverges t c =
    or_found (λ xs. diverging.any_diverges (map plain-Statement xs)) c.args.stmts.now c.loop-stmt.stmt-index c.stmt-item.result _ _ c.loop-stmt-test.true c.stmt-item.is
    (any_more (plain-Statement c.stmt-item.result) (map plain-Statement (drop (c.loop-stmt.stmt-index + 1) c.args.stmts.now))) (sym c.stmt_diverges.ensures ∙ c.if-stmt_diverges.true) c.loop-stmt.invariant

pub loop_diverges-returns-then-is_choose : goal.loop_diverges-returns-then-is_choose
loop_diverges-returns-then-is_choose t c =
    let m = plain-Mark c.args._mark.now in
    c.test_diverges.ensures ∙ sym (choosing_loop m c.args.number (plain-Expr c.get-body.result.now) (sym c.is_choose.ensures ∙ c.if-is_choose.true))
    ∙ ap (λ x. diverging.diverges (loop m c.args.number (plain-Expr x))) c.get-body.ensures

pub loop_diverges-returns-else-is_choose : goal.loop_diverges-returns-else-is_choose
loop_diverges-returns-else-is_choose t c =
    let m = plain-Mark c.args._mark.now in
    ap not c.breaks.ensures ∙ sym (other_loop m c.args.number (plain-Expr c.get-body.result.now) (sym c.is_choose.ensures ∙ c.if-is_choose.false))
    ∙ ap (λ x. diverging.diverges (loop m c.args.number (plain-Expr x))) c.get-body.ensures
