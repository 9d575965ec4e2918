-- The goals that no tactic closes: by the lemmas of texts and lists written one part after the other.
use Rattle.std.proofs.Common.{◌++◌, ◌∙◌, ap, arith, map}
use Rattle.rx_tree.specs.PlainOf.{plain-Expr, plain-Arm, arms_of, plain-Stmt, statements_of}
use Rattle.std.proofs.lemmas.Result.{on_ok_weaker}
use Rattle.rx_print_parts.proofs.WrittenLists.{next_written, tuple_written, some_fields}
use Rattle.rx_print.proofs.WrittenBlocks.{arms_step, statements_step, bare_written, valued_written, match_written}
use Rattle.rx_print.proofs.WrittenForms.{if_else_is, print_written}
use Rattle.rx_print_spelling.specs.Pieces.{flat}
use Rattle.rx_print.proofs.Seen.{expressions_seen, fields_seen}
use Rattle.rx_print.proofs.+expressions.Goals as goal

pub expressions::push_each-loop-e-preserved : goal.expressions::push_each-loop-e-preserved
expressions::push_each-loop-e-preserved t c =
    next_written (expressions_seen c.args.margin.now) c.loop-e.follows c.args.list.now c.loop-e.e-index c.e-item.result c.loop-e.out c.push_next.new.out _ c.loop-e-test.true c.e-item.is
    c.in_ok-push_next.ensures c.loop-e.invariant

pub expressions::push_fields-loop-field-preserved : goal.expressions::push_fields-loop-field-preserved
expressions::push_fields-loop-field-preserved t c =
    next_written (fields_seen c.args.margin.now) c.loop-field.follows c.args.list.now c.loop-field.field-index c.field-item.result c.loop-field.out c.push_field.new.out _ c.loop-field-test.true c.field-item.is
    c.in_ok-push_field.ensures c.loop-field.invariant

pub expressions::push_tuple-returns : goal.expressions::push_tuple-returns
expressions::push_tuple-returns t c =
    on_ok_weaker c.push-2.result (tuple_written (expressions_seen c.args.margin.now) c.args.list.now c.args.out.now c.push.new.self c.push_each.new.out c.push-2.new.self c.tuple_end.result.now c.in_ok-push.ensures.ok
    c.in_ok-push_each.ensures c.tuple_end.ensures) c.push-2.ensures.ok

pub expressions::push_braces-returns : goal.expressions::push_braces-returns
expressions::push_braces-returns t c =
    on_ok_weaker c.push-3.result (some_fields (fields_seen c.args.margin.now) c.args.list.now c.is_empty.result c.is_empty.ensures c.if-is_empty.false c.args.out.now c.push-2.new.self c.push_fields.new.out c.push-3.new.self
    c.in_ok-push.ensures.ok c.in_ok-push_fields.ensures) c.push-3.ensures.ok

pub blocks::push_arms-loop-arm-preserved : goal.blocks::push_arms-loop-arm-preserved
blocks::push_arms-loop-arm-preserved t c =
    arms_step c.args.margin.now c.args.list.now c.loop-arm.arm-index c.arm-item.result c.loop-arm.out c.push_arm.new.out _ c.loop-arm-test.true c.arm-item.is c.in_ok-push_arm.ensures c.loop-arm.invariant

pub blocks::push_statements-loop-stmt-preserved : goal.blocks::push_statements-loop-stmt-preserved
blocks::push_statements-loop-stmt-preserved t c =
    statements_step c.args.margin.now c.args.list.now c.loop-stmt.stmt-index c.stmt-item.result c.loop-stmt.out c.push_next_statement.new.out _ c.loop-stmt-test.true c.stmt-item.is
    c.in_ok-push_next_statement.ensures c.loop-stmt.invariant

pub blocks::push_bare-returns : goal.blocks::push_bare-returns
blocks::push_bare-returns t c =
    on_ok_weaker c.push-3.result (bare_written c.args.margin.now c.in_ok-inner.inner c.args.list.now c.is_empty.result c.args.out.now c.push-2.new.self c.push_statements.new.out c.push_line.new.out c.push-3.new.self
    c.is_empty.ensures c.if-is_empty.false c.in_ok-inner.ensures c.in_ok-push.ensures.ok c.in_ok-push_statements.ensures c.in_ok-push_line.ensures) c.push-3.ensures.ok

pub blocks::push_valued-push_value-requires : goal.blocks::push_valued-push_value-requires
blocks::push_valued-push_value-requires t c = (omega arith, tt)

pub blocks::push_valued-returns : goal.blocks::push_valued-returns
blocks::push_valued-returns t c =
    on_ok_weaker c.push-2.result (valued_written c.args.margin.now c.in_ok-inner.inner (statements_of (map plain-Stmt c.args.list.now)) (plain-Expr c.args.e.now) c.args.out.now c.push.new.self
    c.push_statements.new.out c.push_value.new.out c.push_line.new.out c.push-2.new.self c.in_ok-inner.ensures c.in_ok-push.ensures.ok c.in_ok-push_statements.ensures c.in_ok-push_value.ensures
    c.in_ok-push_line.ensures) c.push-2.ensures.ok

pub blocks::push_match-returns : goal.blocks::push_match-returns
blocks::push_match-returns t c =
    on_ok_weaker c.push.result (match_written c.args.margin.now c.in_ok-inner.inner (plain-Expr c.args.e.now) (arms_of (map plain-Arm c.args.list.now)) c.unfit.result c.args.out.now c.push_between.new.out
    c.push_arms.new.out c.push_line.new.out c.push.new.self c.in_ok-inner.ensures c.unfit.ensures c.in_ok-push_between.ensures c.in_ok-push_arms.ensures c.in_ok-push_line.ensures) c.push.ensures.ok

pub expressions::push_print-returns : goal.expressions::push_print-returns
expressions::push_print-returns t c =
    on_ok_weaker c.push_between.result (print_written c.args.margin.now (plain-Expr c.args.e.now) c.args.out.now c.push_between.new.out) c.push_between.ensures

pub expressions::push_expression-returns-in-Some-other : goal.expressions::push_expression-returns-in-Some-other
expressions::push_expression-returns-in-Some-other t c =
    on_ok_weaker c.push_if_else.result (λ s. s ∙ ap (λ p. c.args.out.now ++ flat p) (if_else_is c.args.second c.args.margin.now c.args.e.now c.in-If.condition c.in-Some-other.a
    c.get-in-Some-other.result.now c.get-in-Some-other-3.result.now c.in-If.body c.get-in-Some-other-2.result.now c.in-If.other c.in-If.is c.in-Some-other.is
    c.get-in-Some-other.ensures c.get-in-Some-other-2.ensures c.get-in-Some-other-3.ensures)) c.push_if_else.ensures
