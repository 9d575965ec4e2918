use Rattle.std.proofs.Common.{◌∙◌, sym, ap, map, drop, ◌+◌, ◌++◌}
use Rattle.rx_typed.specs.PlainTree.{plain-Expr, plain-Arm, plain-Operand, plain-Stmt, plain-Matched, arms_of, operands_of}
use Rattle.rx_cover.specs.Choices.{choices_of, choices_before, choices_behind, choices_among}
use Rattle.rx_cover.specs.PlainChoices.{plain-Choice, plain-Type, stmts_choices}
use Rattle.rx_cover.proofs.ChoiceLemmas.{arms_next, operands_next, found_more, on_more, joined_more, choice_behind, lazily_is, block_is, choose_is, lets_is}
use Rattle.rx_cover.proofs.choices.+choices.Goals as goal

pub add_arms-loop-arm-preserved : goal.add_arms-loop-arm-preserved
add_arms-loop-arm-preserved t c =
    found_more (map plain-Choice c.loop-arm.found) (map plain-Choice c.add_own.new.found) (choices_of (plain-Expr c.arm-item.result.body))
    (choices_behind (arms_of (map plain-Arm (drop (c.loop-arm.arm-index + 1) c.args.arms.now)))) _ c.in_ok-add_own.ensures
    (ap (λ l. map plain-Choice c.loop-arm.found ++ l) (sym (arms_next c.args.arms.now c.loop-arm.arm-index c.arm-item.result c.loop-arm-test.true c.arm-item.is)) ∙ c.loop-arm.invariant)

pub add_operands-loop-operand-preserved : goal.add_operands-loop-operand-preserved
add_operands-loop-operand-preserved t c =
    found_more (map plain-Choice c.loop-operand.found) (map plain-Choice c.add_own.new.found) (choices_of (plain-Expr c.operand-item.result.value))
    (choices_among (operands_of (map plain-Operand (drop (c.loop-operand.operand-index + 1) c.args.operands.now)))) _ c.in_ok-add_own.ensures
    (ap (λ l. map plain-Choice c.loop-operand.found ++ l) (sym (operands_next c.args.operands.now c.loop-operand.operand-index c.operand-item.result c.loop-operand-test.true c.operand-item.is)) ∙ c.loop-operand.invariant)

pub add_choices-returns-in_ok-add_own-in-Lazily : goal.add_choices-returns-in_ok-add_own-in-Lazily
add_choices-returns-in_ok-add_own-in-Lazily t c =
    on_more c.add_own-in-Lazily-2.result (map plain-Choice c.add_own-in-Lazily-2.new.found) (map plain-Choice c.add_own-in-Lazily.new.found) (map plain-Choice c.args.found.now)
    (choices_of (plain-Expr c.get-in-Lazily.result.now)) (choices_of (plain-Expr c.get-in-Lazily-2.result.now)) _ c.in_ok-add_own-in-Lazily.ensures
    (lazily_is c.args.node c.args.expr.now c.in-Lazily.field-0 c.in-Lazily.left c.in-Lazily.right c.get-in-Lazily.result.now c.get-in-Lazily-2.result.now c.in-Lazily.is c.get-in-Lazily.ensures c.get-in-Lazily-2.ensures)
    c.add_own-in-Lazily-2.ensures

pub add_choices-returns-in_ok-add_stmts-in-Block : goal.add_choices-returns-in_ok-add_stmts-in-Block
add_choices-returns-in_ok-add_stmts-in-Block t c =
    on_more c.add_own-in-Block.result (map plain-Choice c.add_own-in-Block.new.found) (map plain-Choice c.add_stmts.new.found) (map plain-Choice c.args.found.now)
    (stmts_choices (map plain-Stmt c.as_slice-in-Block.result.now)) (choices_of (plain-Expr c.get-in-Block.result.now)) _ c.in_ok-add_stmts-in-Block.ensures
    (block_is c.args.node c.args.expr.now c.in-Block.stmts c.as_slice-in-Block.result.now c.in-Block.tail c.get-in-Block.result.now c.in-Block.is c.as_slice-in-Block.ensures c.get-in-Block.ensures)
    c.add_own-in-Block.ensures

pub add_choices-returns-in_ok-add_matched-in-Choose : goal.add_choices-returns-in_ok-add_matched-in-Choose
add_choices-returns-in_ok-add_matched-in-Choose t c =
    on_more c.add_arms.result (map plain-Choice c.add_arms.new.found) (map plain-Choice c.add_matched.new.found) (map plain-Choice c.args.found.now)
    _ (choices_behind (arms_of (map plain-Arm c.as_slice-in-Choose-2.result.now))) _
    (joined_more (map plain-Choice c.add_matched.new.found) (map plain-Choice c.push.new.self) (map plain-Choice c.args.found.now) _ (choices_before (plain-Matched c.in-Choose.matched))
    (choice_behind c.args.found.now c.push.new.self _ c.in_ok-push-in-Choose.ensures.ok) c.in_ok-add_matched-in-Choose.ensures)
    (choose_is c.args.node c.args.expr.now c.in-Choose.matched c.in-Choose.arms c.as_slice-in-Choose.result.now c.as_slice-in-Choose-2.result.now (plain-Type c.type_of_matched.result) c.in-Choose.is c.type_of_matched.ensures c.as_slice-in-Choose.ensures c.as_slice-in-Choose-2.ensures)
    c.add_arms.ensures

pub add_stmt-returns-in_ok-push-in-Lets : goal.add_stmt-returns-in_ok-push-in-Lets
add_stmt-returns-in_ok-push-in-Lets t c =
    on_more c.add_matched.result (map plain-Choice c.add_matched.new.found) (map plain-Choice c.push.new.self) (map plain-Choice c.args.found.now)
    _ (choices_before (plain-Matched c.in-Lets.matched)) _ (choice_behind c.args.found.now c.push.new.self _ c.in_ok-push-in-Lets.ensures.ok)
    (lets_is c.args.stmt.now c.in-Lets.node c.in-Lets.pattern c.in-Lets.matched (plain-Type c.type_of_matched.result) c.in-Lets.is c.type_of_matched.ensures)
    c.add_matched.ensures
