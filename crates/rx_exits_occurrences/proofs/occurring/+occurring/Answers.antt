use Rattle.std.proofs.Common.{ap, map, drop, ◌+◌, ◌++◌, refl}
use Rattle.rx_typed.specs.PlainTree.{plain-Expr, plain-Arm, plain-Operand, plain-Matched, plain-Pattern, plain-Place, arms_of, operands_of}
use Rattle.rx_exits_plan.specs.Blocks.{bound}
use Rattle.rx_exits_plan.specs.Occurrences.{named_place, all_declared, occurrences, occurrences_in, occurrences_matched, occurrences_armed, in_statement, in_statements}
use Rattle.rx_exits_plan.specs.PlainSyntax.{plain-Statement}
use Rattle.rx_exits_plan.proofs.Turns.{turned}
use Rattle.rx_exits_occurrences.specs.PlainOccurrence.{plain-Occurrence}
use Rattle.rx_exits_occurrences.proofs.OccurringLemmas.{on_more, lazily_is, block_is, choose_is, operands_more, arms_more, arm_is}
use Rattle.rx_exits_occurrences.proofs.occurring.+occurring.Goals as goal

pub push_operands-loop-operand-preserved : goal.push_operands-loop-operand-preserved
push_operands-loop-operand-preserved t c =
    turned (λ xs. occurrences_in (operands_of (map plain-Operand xs))) c.args.operands.now c.loop-operand.operand-index c.operand-item.result
    _ _ (occurrences (plain-Expr c.operand-item.result.value)) _ c.loop-operand-test.true c.operand-item.is
    (operands_more c.operand-item.result (drop (c.loop-operand.operand-index + 1) c.args.operands.now)) c.in_ok-push_occurrences.ensures c.loop-operand.invariant

pub push_arms-loop-arm-preserved : goal.push_arms-loop-arm-preserved
push_arms-loop-arm-preserved t c =
    turned (λ xs. occurrences_armed (arms_of (map plain-Arm xs))) c.args.arms.now c.loop-arm.arm-index c.arm-item.result
    _ _ (all_declared (bound (plain-Arm c.arm-item.result).0) ++ occurrences (plain-Arm c.arm-item.result).1) _ c.loop-arm-test.true c.arm-item.is
    (arms_more c.arm-item.result (drop (c.loop-arm.arm-index + 1) c.args.arms.now)) c.in_ok-push_arm.ensures c.loop-arm.invariant

pub push_statements-loop-stmt-preserved : goal.push_statements-loop-stmt-preserved
push_statements-loop-stmt-preserved t c =
    turned (λ xs. in_statements (map plain-Statement xs)) c.args.stmts.now c.loop-stmt.stmt-index c.stmt-item.result
    _ _ (in_statement (plain-Statement c.stmt-item.result)) _ c.loop-stmt-test.true c.stmt-item.is refl c.in_ok-push_statement.ensures c.loop-stmt.invariant

pub push_occurrences-returns-in_ok-push_occurrences-in-Lazily : goal.push_occurrences-returns-in_ok-push_occurrences-in-Lazily
push_occurrences-returns-in_ok-push_occurrences-in-Lazily t c =
    on_more c.push_occurrences-in-Lazily-2.result (map plain-Occurrence c.push_occurrences-in-Lazily-2.new.found) (map plain-Occurrence c.push_occurrences-in-Lazily.new.found) (map plain-Occurrence c.args.found.now)
    (occurrences (plain-Expr c.get-in-Lazily.result.now)) (occurrences (plain-Expr c.get-in-Lazily-2.result.now)) _ c.in_ok-push_occurrences-in-Lazily.ensures
    (lazily_is c.args.expr.now c.in-Lazily.field-0 c.in-Lazily.left c.in-Lazily.right c.get-in-Lazily.result.now c.get-in-Lazily-2.result.now c.in-Lazily.is c.get-in-Lazily.ensures c.get-in-Lazily-2.ensures)
    c.push_occurrences-in-Lazily-2.ensures

pub push_occurrences-returns-in_ok-push_statements-in-Block : goal.push_occurrences-returns-in_ok-push_statements-in-Block
push_occurrences-returns-in_ok-push_statements-in-Block t c =
    on_more c.push_occurrences-in-Block.result (map plain-Occurrence c.push_occurrences-in-Block.new.found) (map plain-Occurrence c.push_statements.new.found) (map plain-Occurrence c.args.found.now)
    (in_statements (map plain-Statement c.as_slice-in-Block.result.now)) (occurrences (plain-Expr c.get-in-Block.result.now)) _ c.in_ok-push_statements-in-Block.ensures
    (block_is c.args.expr.now c.in-Block.stmts c.as_slice-in-Block.result.now c.in-Block.tail c.get-in-Block.result.now c.in-Block.is c.as_slice-in-Block.ensures c.get-in-Block.ensures)
    c.push_occurrences-in-Block.ensures

pub push_occurrences-returns-in_ok-push_matched-in-Choose : goal.push_occurrences-returns-in_ok-push_matched-in-Choose
push_occurrences-returns-in_ok-push_matched-in-Choose t c =
    on_more c.push_arms.result (map plain-Occurrence c.push_arms.new.found) (map plain-Occurrence c.push_matched.new.found) (map plain-Occurrence c.args.found.now)
    (occurrences_matched (plain-Matched c.in-Choose.matched)) (occurrences_armed (arms_of (map plain-Arm c.as_slice-in-Choose.result.now))) _ c.in_ok-push_matched-in-Choose.ensures
    (choose_is c.args.expr.now c.in-Choose.matched c.in-Choose.arms c.as_slice-in-Choose.result.now c.in-Choose.is c.as_slice-in-Choose.ensures)
    c.push_arms.ensures

pub push_named-returns : goal.push_named-returns
push_named-returns t c =
    let p = named_place (plain-Place c.args.place.now) in
    on_more c.push_occurrences.result (map plain-Occurrence c.push_occurrences.new.found) (map plain-Occurrence c.push_place.new.found) (map plain-Occurrence c.args.found.now)
    p (occurrences (plain-Expr c.get.result.now)) _ c.in_ok-push_place.ensures (ap (λ x. p ++ occurrences (plain-Expr x)) c.get.ensures) c.push_occurrences.ensures

pub push_arm-returns : goal.push_arm-returns
push_arm-returns t c =
    on_more c.push_occurrences.result (map plain-Occurrence c.push_occurrences.new.found) (map plain-Occurrence c.push_pattern.new.found) (map plain-Occurrence c.args.found.now)
    (all_declared (bound (plain-Pattern c.args.arm.now.pattern))) (occurrences (plain-Expr c.args.arm.now.body)) _ c.in_ok-push_pattern.ensures (arm_is c.args.arm.now) c.push_occurrences.ensures

pub push_let-returns : goal.push_let-returns
push_let-returns t c =
    on_more c.push_matched.result (map plain-Occurrence c.push_matched.new.found) (map plain-Occurrence c.push_pattern.new.found) (map plain-Occurrence c.args.found.now)
    (all_declared (bound (plain-Pattern c.args.pattern.now))) (occurrences_matched (plain-Matched c.args.matched.now)) _ c.in_ok-push_pattern.ensures refl c.push_matched.ensures
