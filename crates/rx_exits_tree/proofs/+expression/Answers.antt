-- Lists of copies turn by turn, and blocks; and that parts of a list are no deeper.
use Rattle.std.proofs.Common.{◌≡◌, ◌≤◌, ◌++◌, [], map, sym, ap, ◌∙◌, subst, arith}
use denote.Param.Weighed.{most}
use Rattle.rx_typed.specs.Tree.{block, ends}
use Rattle.rx_typed.proofs.tree.Stmt.TheLaws as stmt
use Rattle.rx_typed.specs.PlainTree.{plain-Operand, plain-Arm, plain-Expr, plain-Mark, operands_of, arms_of}
use Rattle.rx_exits_plan.specs.PlainPlan.{plain-Run}
use Rattle.rx_exits_plan.specs.Blocks.{before}
use Rattle.rx_exits_plan.specs.Changed.{changed, changed_statement}
use Rattle.rx_exits_tree.specs.Changing.{keeping, changes_of, tail_at}
use Rattle.rx_exits_tree.specs.Shapes.{plain-Statement}
use Rattle.rx_exits_tree.proofs.Giving.{written_at, written_elsewhere, no_give_written}
use Rattle.rx_exits_tree.proofs.RunBlock.{if_ok, block_laid, block_made, same_tree, laid_marked, laid_cut, cut_tail_is, cut_tail_kept, marked_tail_kept, marked_tail_is}
use Rattle.rx_exits_tree.proofs.Turns.{of_value, copied_turn, copied_end, operands_changed, arms_changed, map_both, most_take, most_middle, most_behind}
use Rattle.rx_exits_tree.proofs.+expression.Goals as goal

pub expressions::all-loop-operand-preserved : goal.expressions::all-loop-operand-preserved
expressions::all-loop-operand-preserved t c =
    let C = changes_of c.args.change in
    copied_turn plain-Operand (λ x. ((plain-Operand x).0, changed C (plain-Operand x).1)) [] c.args.operands.now c.loop-operand.operand-index c.operand-item.result
    c.loop-operand.copies c.in_ok-copy.held c.in_ok-copies.copies c.one.result c.in_ok-copy.copy
    c.loop-operand-test.true c.operand-item.is c.in_ok-copy.ensures.0 c.in_ok-copy.ensures.1 c.one.ensures c.in_ok-copies.ensures c.loop-operand.invariant

pub expressions::all-returns : goal.expressions::all-returns
expressions::all-returns t c =
    let C = changes_of c.args.change in
    let whole = copied_end plain-Operand (λ x. ((plain-Operand x).0, changed C (plain-Operand x).1)) [] c.args.operands.now c.loop-operand.operand-index c.loop-operand.copies
    c.loop-operand-test.false c.loop-operand.invariant in
    ap operands_of whole ∙ operands_changed C plain-Operand c.args.operands.now

pub statements::arms-loop-each-preserved : goal.statements::arms-loop-each-preserved
statements::arms-loop-each-preserved t c =
    let C = changes_of c.args.change in
    copied_turn plain-Arm (λ x. ((plain-Arm x).0, changed C (plain-Arm x).1)) [] c.args.arms.now c.loop-each.each-index c.each-item.result
    c.loop-each.copies c.in_ok-copy.held c.in_ok-copies.copies c.arm.result c.in_ok-copy.copy
    c.loop-each-test.true c.each-item.is c.in_ok-copy.ensures.0 c.in_ok-copy.ensures.1 c.arm.ensures c.in_ok-copies.ensures c.loop-each.invariant

pub statements::arms-returns : goal.statements::arms-returns
statements::arms-returns t c =
    let C = changes_of c.args.change in
    let whole = copied_end plain-Arm (λ x. ((plain-Arm x).0, changed C (plain-Arm x).1)) [] c.args.arms.now c.loop-each.each-index c.loop-each.copies
    c.loop-each-test.false c.loop-each.invariant in
    ap arms_of whole ∙ arms_changed C plain-Arm c.args.arms.now

pub statements::statements-loop-each-preserved : goal.statements::statements-loop-each-preserved
statements::statements-loop-each-preserved t c =
    let C = changes_of c.args.change in
    copied_turn plain-Statement (λ x. changed_statement C (plain-Statement x)) (map plain-Statement c.args.held) c.args.statements.now c.loop-each.each-index c.each-item.result
    c.loop-each.copies c.in_ok-copy.before c.in_ok-copies.copies c.statement.result c.in_ok-copy.copy
    c.loop-each-test.true c.each-item.is c.in_ok-copy.ensures.0 c.in_ok-copy.ensures.1 c.statement.ensures c.in_ok-copies.ensures c.loop-each.invariant

pub statements::statements-returns : goal.statements::statements-returns
statements::statements-returns t c =
    let C = changes_of c.args.change in
    let whole = copied_end plain-Statement (λ x. changed_statement C (plain-Statement x)) (map plain-Statement c.args.held) c.args.statements.now c.loop-each.each-index c.loop-each.copies
    c.loop-each-test.false c.loop-each.invariant in
    whole ∙ ap (λ l. map plain-Statement c.args.held ++ l) (map_both (changed_statement C) plain-Statement c.args.statements.now)

pub statements::marked_statements-returns : goal.statements::marked_statements-returns
statements::marked_statements-returns t c =
    let R = plain-Run c.args.run in
    let front = c.in_ok-copies.ensures ∙ ap (λ l. map plain-Statement l ++ map (changed_statement keeping) (map plain-Statement c.in_front.result.now)) c.new.ensures in
    if_ok _ _ c.statements-3.result (λ l h. laid_marked R c.args.loops.now c.args.used.now c.args.all.now c.in_front.result.now c.inside.result.now c.behind.result.now
    c.in_ok-copies.copies c.in_ok-copies-2.copies c.in_ok-copies-3.copies c.in_ok-copies-4.copies l
    c.in_front.ensures c.inside.ensures c.behind.ensures front c.in_ok-copies-2.ensures c.in_ok-copies-3.ensures c.in_ok-copies-4.ensures h) c.statements-3.ensures

pub statements::cut_statements-returns : goal.statements::cut_statements-returns
statements::cut_statements-returns t c =
    let front = c.in_ok-copies.ensures ∙ ap (λ l. map plain-Statement l ++ map (changed_statement keeping) (map plain-Statement c.in_front.result.now)) c.new.ensures in
    if_ok _ _ c.statements-2.result (λ l h. laid_cut (plain-Run c.args.run) c.args.all.now c.in_front.result.now c.behind.result.now c.in_ok-copies.copies l
    c.in_front.ensures c.behind.ensures front h) c.statements-2.ensures

pub statements::marked_statements-statements-requires : goal.statements::marked_statements-statements-requires
statements::marked_statements-statements-requires t c =
    let less : most stmt.the_size c.in_front.result.now ≤ most stmt.the_size c.args.all.now = subst (λ l. most stmt.the_size l ≤ most stmt.the_size c.args.all.now) (sym c.in_front.ensures) (most_take stmt.the_size c.args.run.first c.args.all.now) in
    let bound = c.decreases in
    (omega (arith, less, bound), tt)

pub statements::marked_statements-statements-requires-2 : goal.statements::marked_statements-statements-requires-2
statements::marked_statements-statements-requires-2 t c =
    let less : most stmt.the_size c.inside.result.now ≤ most stmt.the_size c.args.all.now = subst (λ l. most stmt.the_size l ≤ most stmt.the_size c.args.all.now) (sym c.inside.ensures)
    (most_middle stmt.the_size c.args.run.count c.args.run.first c.args.all.now) in
    let bound = c.decreases in
    (omega (arith, less, bound), tt)

pub statements::marked_statements-statements-requires-3 : goal.statements::marked_statements-statements-requires-3
statements::marked_statements-statements-requires-3 t c =
    let less : most stmt.the_size c.behind.result.now ≤ most stmt.the_size c.args.all.now = subst (λ l. most stmt.the_size l ≤ most stmt.the_size c.args.all.now) (sym c.behind.ensures)
    (most_behind stmt.the_size c.args.run.count c.args.run.first c.args.all.now) in
    let bound = c.decreases in
    (omega (arith, less, bound), tt)

pub statements::cut_statements-statements-requires : goal.statements::cut_statements-statements-requires
statements::cut_statements-statements-requires t c =
    let less : most stmt.the_size c.in_front.result.now ≤ most stmt.the_size c.args.all.now = subst (λ l. most stmt.the_size l ≤ most stmt.the_size c.args.all.now) (sym c.in_front.ensures) (most_take stmt.the_size c.args.run.first c.args.all.now) in
    let bound = c.decreases in
    (omega (arith, less, bound), tt)

pub statements::cut_statements-statements-requires-2 : goal.statements::cut_statements-statements-requires-2
statements::cut_statements-statements-requires-2 t c =
    let less : most stmt.the_size c.behind.result.now ≤ most stmt.the_size c.args.all.now = subst (λ l. most stmt.the_size l ≤ most stmt.the_size c.args.all.now) (sym c.behind.ensures)
    (most_behind stmt.the_size c.args.run.count c.args.run.first c.args.all.now) in
    let bound = c.decreases in
    (omega (arith, less, bound), tt)

pub statements::value_of-returns-then-last-node : goal.statements::value_of-returns-then-last-node
statements::value_of-returns-then-last-node t c =
    same_tree c.expression.result _ _ (ap (changed (changes_of c.args.change)) (ap plain-Expr c.get.ensures ∙ sym (written_at c.args.node c.args.last.now c.in-Give.value c.in-Give.is c.if-last-node.true))) c.expression.ensures

pub statements::value_of-returns-else-last-node : goal.statements::value_of-returns-else-last-node
statements::value_of-returns-else-last-node t c =
    same_tree c.expression-else-last-node.result _ _ (ap (changed (changes_of c.args.change)) (sym (written_elsewhere c.args.node c.args.last.now c.in-Give.value c.in-Give.is c.if-last-node.false))) c.expression-else-last-node.ensures

pub statements::value_of-returns-in_default : goal.statements::value_of-returns-in_default
statements::value_of-returns-in_default t c =
    same_tree c.expression-in_default.result _ _ (ap (changed (changes_of c.args.change)) (sym (no_give_written c.args.node c.args.last.now c.in_default.not-Give))) c.expression-in_default.ensures

pub statements::cut_tail-returns-then-run : goal.statements::cut_tail-returns-then-run
statements::cut_tail-returns-then-run t c = same_tree c.unit.result _ _ (cut_tail_is c.args.last.now c.args.run.tail c.if-run.true) c.unit.ensures

pub statements::cut_tail-returns-else-run : goal.statements::cut_tail-returns-else-run
statements::cut_tail-returns-else-run t c = same_tree c.expression.result _ _ (cut_tail_kept (plain-Expr c.args.last.now) c.args.run.tail c.if-run.false) c.expression.ensures

pub statements::marked_tail-returns-else-run : goal.statements::marked_tail-returns-else-run
statements::marked_tail-returns-else-run t c =
    same_tree c.expression.result _ _ (marked_tail_kept c.args.run.block c.args.loops.now (plain-Expr c.args.last.now) c.args.run.tail c.if-run.false) c.expression.ensures

pub statements::marked_tail-returns-in_ok-marked : goal.statements::marked_tail-returns-in_ok-marked
statements::marked_tail-returns-in_ok-marked t c =
    same_tree c.given_again.result _ _ (marked_tail_is c.args.run.block c.args.loops.now (plain-Expr c.args.last.now) (plain-Expr c.in_ok-value.value) (plain-Expr c.in_ok-marked.marked) c.args.run.tail c.if-run.true
    c.in_ok-value.ensures c.in_ok-marked.ensures) c.given_again.ensures

pub statements::block_last-returns : goal.statements::block_last-returns
statements::block_last-returns t c =
    let C = changes_of c.args.change in
    let last = of_value (λ it. plain-Expr it ≡ tail_at c.args.at C (plain-Expr c.get.result.now)) c.tail.result c.in_ok-last.last c.in_ok-last.ensures.0 c.tail.ensures in
    same_tree c.with_mark.result _ _
    (ap (block (plain-Mark c.args.mark.now)) (ap (λ l. before (map plain-Statement l) (ends (plain-Expr c.in_ok-last.last))) c.in_ok-last.ensures.1
    ∙ ap (λ x. before (map plain-Statement c.args.copies) (ends x)) (last ∙ ap (λ e. tail_at c.args.at C (plain-Expr e)) c.get.ensures)))
    c.with_mark.ensures

pub forms::expression-returns-in_ok-copies-in-Block : goal.forms::expression-returns-in_ok-copies-in-Block
forms::expression-returns-in_ok-copies-in-Block t c =
    block_made (changes_of c.args.change) c.args.expr.now c.in-Block.all c.in-Block.last c.block_last.result c.in-Block.is
    (block_laid c.at_block-at.result (changes_of c.args.change) (plain-Mark c.args.expr.now.mark) (λ was b. (changes_of c.args.change).at_block c.args.expr.now.mark.node was b)
    c.in-Block.all c.in_ok-copies-in-Block.copies c.in-Block.last c.block_last.result c.at_block-at.ensures c.in_ok-copies-in-Block.ensures c.block_last.ensures)
