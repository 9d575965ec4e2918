use Rattle.std.proofs.Common.{◌+◌, ◌++◌, map, drop, sym, ap, ◌∙◌}
use Rattle.rx_typed.specs.PlainTree.{plain-Expr, plain-Matched, plain-Operand, plain-Arm, plain-Stmt, operands_of, arms_of, nested_of}
use Rattle.rx_hoist_diverging.specs.Diverging as spec
use Rattle.rx_hoist_diverging.proofs.Lists.{next_of, turned, operands_more, arms_more, on_more, on_same, lazily_is, block_is, choose_is, runs_on, lets_on}
use Rattle.rx_hoist_diverging.proofs.diverging.+diverging.Goals as goal

pub add_operands-loop-operand-preserved : goal.add_operands-loop-operand-preserved
add_operands-loop-operand-preserved t c =
    turned (λ xs. spec.diverging_operands (operands_of (map plain-Operand xs))) c.args.operands.now c.loop-operand.operand-index c.operand-item.result
    _ _ (spec.diverging (plain-Expr c.operand-item.result.value)) _ c.loop-operand-test.true c.operand-item.is
    (operands_more c.operand-item.result (drop (c.loop-operand.operand-index + 1) c.args.operands.now)) c.in_ok-add.ensures c.loop-operand.invariant

pub add_arms-loop-arm-preserved : goal.add_arms-loop-arm-preserved
add_arms-loop-arm-preserved t c =
    turned (λ xs. spec.diverging_arms (arms_of (map plain-Arm xs))) c.args.arms.now c.loop-arm.arm-index c.arm-item.result
    _ _ (spec.diverging (plain-Expr c.arm-item.result.body)) _ c.loop-arm-test.true c.arm-item.is
    (arms_more c.arm-item.result (drop (c.loop-arm.arm-index + 1) c.args.arms.now)) c.in_ok-add.ensures c.loop-arm.invariant

pub add_stmts-loop-stmt-preserved : goal.add_stmts-loop-stmt-preserved
add_stmts-loop-stmt-preserved t c = λ tail. (
    c.in_ok-add_stmt.ensures (nested_of (map plain-Stmt (drop (c.loop-stmt.stmt-index + 1) c.args.stmts.now)) tail)
    ∙ ap (λ l. c.loop-stmt.all.items ++ l)
    (sym (next_of (λ xs. spec.diverging_body (nested_of (map plain-Stmt xs) tail)) c.args.stmts.now c.loop-stmt.stmt-index c.stmt-item.result c.loop-stmt-test.true c.stmt-item.is))
    ∙ c.loop-stmt.invariant tail)

pub add_stmt-returns-in-Runs : goal.add_stmt-returns-in-Runs
add_stmt-returns-in-Runs t c = λ b. runs_on c.add.result c.add.new.all.items c.args.all.now.items c.args.stmt.now c.in-Runs.expr b c.in-Runs.is c.add.ensures

pub add_stmt-returns-in-Lets : goal.add_stmt-returns-in-Lets
add_stmt-returns-in-Lets t c = λ b. lets_on c.add_let.result c.add_let.new.all.items c.args.all.now.items c.args.stmt.now c.in-Lets.number c.in-Lets.field-1 c.in-Lets.matched b c.in-Lets.is c.add_let.ensures

pub add-returns-in_ok-add-in-Lazily : goal.add-returns-in_ok-add-in-Lazily
add-returns-in_ok-add-in-Lazily t c =
    on_more c.add-in-Lazily-2.result c.add-in-Lazily-2.new.all.items c.add-in-Lazily.new.all.items c.args.all.now.items
    (spec.diverging (plain-Expr c.get-in-Lazily.result.now)) (spec.diverging (plain-Expr c.get-in-Lazily-2.result.now)) _ c.in_ok-add-in-Lazily.ensures
    (lazily_is c.args.expr.now c.in-Lazily.field-0 c.in-Lazily.left c.in-Lazily.right c.get-in-Lazily.result.now c.get-in-Lazily-2.result.now c.in-Lazily.is c.get-in-Lazily.ensures c.get-in-Lazily-2.ensures)
    c.add-in-Lazily-2.ensures

pub add-returns-in_ok-add_stmts-in-Block : goal.add-returns-in_ok-add_stmts-in-Block
add-returns-in_ok-add_stmts-in-Block t c =
    on_same c.add-in-Block.result c.add-in-Block.new.all.items (c.add_stmts.new.all.items ++ spec.diverging (plain-Expr c.get-in-Block.result.now)) _
    (c.in_ok-add_stmts-in-Block.ensures (plain-Expr c.get-in-Block.result.now)
    ∙ ap (λ l. c.args.all.now.items ++ l)
    (block_is c.args.expr.now c.in-Block.stmts c.as_slice-in-Block.result.now c.in-Block.tail c.get-in-Block.result.now c.in-Block.is c.as_slice-in-Block.ensures c.get-in-Block.ensures))
    c.add-in-Block.ensures

pub add-returns-in_ok-add_matched-in-Choose : goal.add-returns-in_ok-add_matched-in-Choose
add-returns-in_ok-add_matched-in-Choose t c =
    on_more c.add_arms.result c.add_arms.new.all.items c.add_matched.new.all.items c.args.all.now.items
    (spec.diverging_matched (plain-Matched c.in-Choose.matched)) (spec.diverging_arms (arms_of (map plain-Arm c.as_slice-in-Choose.result.now))) _ c.in_ok-add_matched-in-Choose.ensures
    (choose_is c.args.expr.now c.in-Choose.matched c.in-Choose.arms c.as_slice-in-Choose.result.now c.in-Choose.is c.as_slice-in-Choose.ensures)
    c.add_arms.ensures
