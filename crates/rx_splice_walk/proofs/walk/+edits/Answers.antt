-- What is written at a node, by its form, and over the lists of parts.
use Rattle.std.proofs.Common.{◌∷◌, ◌++◌, map, ap, ◌∙◌, refl, arith}
use Rattle.std.proofs.lemmas.Result.{on_ok_weaker}
use Rattle.rx_tree.specs.PlainOf.{plain-Expr, plain-Pattern, plain-Stmt, statements_of, expression_int, expression_bool, expression_tuple, expression_var, expression_field, expression_part, expression_deref, expression_neg, expression_not, expression_borrow, expression_binary, expression_assign, expression_update, expression_call, expression_nextinput, expression_variant, expression_make, expression_print, expression_block, expression_if, expression_if_let, expression_match, expression_loop, expression_while, expression_while_let, expression_break, expression_continue, expression_return, statement_let, statement_eval}
use Rattle.rx_resolve_names.specs.Meant.{a_loop, a_test}
use Rattle.rx_hoist_extraction.specs.Names.{bound, behind_all}
use Rattle.rx_splice_walk.proofs.Written.{nothing, two, three, at_node, at_node_done, at_statement, expression_at, block_at, expressions_at, fields_at, arms_at, statements_at, expressions_step, expressions_end, fields_step, fields_end, arms_step, arms_end, statements_step, statements_end, names_step, names_end, return_written, return_alone, present_at, absent_at, list_at, no_list_at, block_written}
use Rattle.rx_splice_laws.specs.Edits.{written}
use Rattle.rx_splice_laws.specs.EditsOf.{edits}
use Rattle.rx_splice_walk.proofs.walk.+edits.Goals as goal

pub expression-returns-in-Int : goal.expression-returns-in-Int
expression-returns-in-Int g t c =
    at_node (g.P.Places.edits c.args.places.now) c.args.own.now c.args.around.now c.args.short _ _ _ _ _ _ c.in-Int.is (expression_int _ _ _)
    (c.number.ensures)

pub expression-returns-in-Var : goal.expression-returns-in-Var
expression-returns-in-Var g t c =
    at_node (g.P.Places.edits c.args.places.now) c.args.own.now c.args.around.now c.args.short _ _ _ _ _ _ c.in-Var.is (expression_var _ _)
    (c.variable.ensures)

pub expression-returns-in-Bool : goal.expression-returns-in-Bool
expression-returns-in-Bool g t c =
    at_node_done (g.P.Places.edits c.args.places.now) c.args.own.now c.args.around.now c.args.short _ _ _ _ _ c.in-Bool.is (expression_bool _ _)
    (nothing _)

pub expression-returns-in-NextInput : goal.expression-returns-in-NextInput
expression-returns-in-NextInput g t c =
    at_node_done (g.P.Places.edits c.args.places.now) c.args.own.now c.args.around.now c.args.short _ _ _ _ _ c.in-NextInput.is (expression_nextinput _)
    (nothing _)

pub expression-returns-in-Tuple : goal.expression-returns-in-Tuple
expression-returns-in-Tuple g t c =
    at_node (g.P.Places.edits c.args.places.now) c.args.own.now c.args.around.now c.args.short _ _ _ _ _ _ c.in-Tuple.is (expression_tuple _ _)
    (on_ok_weaker c.listed.result (expressions_at (g.P.Places.edits c.args.places.now) c.args.own.now c.args.around.now _ _ _ _ c.as_slice.ensures) c.listed.ensures)

pub expression-returns-in-Call : goal.expression-returns-in-Call
expression-returns-in-Call g t c =
    at_node (g.P.Places.edits c.args.places.now) c.args.own.now c.args.around.now c.args.short _ _ _ _ _ _ c.in-Call.is (expression_call _ _ _)
    (on_ok_weaker c.listed-in-Call.result (expressions_at (g.P.Places.edits c.args.places.now) c.args.own.now c.args.around.now _ _ _ _ c.as_slice-in-Call.ensures) c.listed-in-Call.ensures)

pub expression-returns-in-Variant : goal.expression-returns-in-Variant
expression-returns-in-Variant g t c =
    at_node (g.P.Places.edits c.args.places.now) c.args.own.now c.args.around.now c.args.short _ _ _ _ _ _ c.in-Variant.is (expression_variant _ _ _ _)
    (c.arguments.ensures)

pub expression-returns-in-Make : goal.expression-returns-in-Make
expression-returns-in-Make g t c =
    at_node (g.P.Places.edits c.args.places.now) c.args.own.now c.args.around.now c.args.short _ _ _ _ _ _ c.in-Make.is (expression_make _ _ _)
    (on_ok_weaker c.fields.result (fields_at (g.P.Places.edits c.args.places.now) c.args.own.now c.args.around.now _ _ _ _ c.as_slice-in-Make.ensures) c.fields.ensures)

pub expression-returns-in-Field : goal.expression-returns-in-Field
expression-returns-in-Field g t c =
    at_node (g.P.Places.edits c.args.places.now) c.args.own.now c.args.around.now c.args.short _ _ _ _ _ _ c.in-Field.is (expression_field _ _ _)
    (on_ok_weaker c.expression.result (expression_at (g.P.Places.edits c.args.places.now) c.args.own.now c.args.own.now c.args.around.now c.args.around.now _ _ _ _ c.get.ensures refl refl) c.expression.ensures)

pub expression-returns-in-Part : goal.expression-returns-in-Part
expression-returns-in-Part g t c =
    at_node (g.P.Places.edits c.args.places.now) c.args.own.now c.args.around.now c.args.short _ _ _ _ _ _ c.in-Part.is (expression_part _ _ _)
    (on_ok_weaker c.expression-in-Part.result (expression_at (g.P.Places.edits c.args.places.now) c.args.own.now c.args.own.now c.args.around.now c.args.around.now _ _ _ _ c.get-in-Part.ensures refl refl) c.expression-in-Part.ensures)

pub expression-returns-in-Deref : goal.expression-returns-in-Deref
expression-returns-in-Deref g t c =
    at_node (g.P.Places.edits c.args.places.now) c.args.own.now c.args.around.now c.args.short _ _ _ _ _ _ c.in-Deref.is (expression_deref _ _)
    (on_ok_weaker c.expression-in-Deref.result (expression_at (g.P.Places.edits c.args.places.now) c.args.own.now c.args.own.now c.args.around.now c.args.around.now _ _ _ _ c.get-in-Deref.ensures refl refl) c.expression-in-Deref.ensures)

pub expression-returns-in-Neg : goal.expression-returns-in-Neg
expression-returns-in-Neg g t c =
    at_node (g.P.Places.edits c.args.places.now) c.args.own.now c.args.around.now c.args.short _ _ _ _ _ _ c.in-Neg.is (expression_neg _ _)
    (on_ok_weaker c.expression-in-Neg.result (expression_at (g.P.Places.edits c.args.places.now) c.args.own.now c.args.own.now c.args.around.now c.args.around.now _ _ _ _ c.get-in-Neg.ensures refl refl) c.expression-in-Neg.ensures)

pub expression-returns-in-Not : goal.expression-returns-in-Not
expression-returns-in-Not g t c =
    at_node (g.P.Places.edits c.args.places.now) c.args.own.now c.args.around.now c.args.short _ _ _ _ _ _ c.in-Not.is (expression_not _ _)
    (on_ok_weaker c.expression-in-Not.result (expression_at (g.P.Places.edits c.args.places.now) c.args.own.now c.args.own.now c.args.around.now c.args.around.now _ _ _ _ c.get-in-Not.ensures refl refl) c.expression-in-Not.ensures)

pub expression-returns-in-Borrow : goal.expression-returns-in-Borrow
expression-returns-in-Borrow g t c =
    at_node (g.P.Places.edits c.args.places.now) c.args.own.now c.args.around.now c.args.short _ _ _ _ _ _ c.in-Borrow.is (expression_borrow _ _ _)
    (on_ok_weaker c.expression-in-Borrow.result (expression_at (g.P.Places.edits c.args.places.now) c.args.own.now c.args.own.now c.args.around.now c.args.around.now _ _ _ _ c.get-in-Borrow.ensures refl refl) c.expression-in-Borrow.ensures)

pub expression-returns-in-Print : goal.expression-returns-in-Print
expression-returns-in-Print g t c =
    at_node (g.P.Places.edits c.args.places.now) c.args.own.now c.args.around.now c.args.short _ _ _ _ _ _ c.in-Print.is (expression_print _ _)
    (on_ok_weaker c.expression-in-Print.result (expression_at (g.P.Places.edits c.args.places.now) c.args.own.now c.args.own.now c.args.around.now c.args.around.now _ _ _ _ c.get-in-Print.ensures refl refl) c.expression-in-Print.ensures)

pub expression-returns-in_ok-expression-in-Binary : goal.expression-returns-in_ok-expression-in-Binary
expression-returns-in_ok-expression-in-Binary g t c =
    at_node (g.P.Places.edits c.args.places.now) c.args.own.now c.args.around.now c.args.short _ _ _ _ _ _ c.in-Binary.is (expression_binary _ _ _ _)
    (on_ok_weaker c.expression-in-Binary-2.result (λ s. two c.args.out.now c.expression-in-Binary.new.out c.expression-in-Binary-2.new.out _ _
    (expression_at (g.P.Places.edits c.args.places.now) c.args.own.now c.args.own.now c.args.around.now c.args.around.now _ _ _ _ c.get-in-Binary.ensures refl refl c.in_ok-expression-in-Binary.ensures)
    (expression_at (g.P.Places.edits c.args.places.now) c.args.own.now c.args.own.now c.args.around.now c.args.around.now _ _ _ _ c.get-in-Binary-2.ensures refl refl s)) c.expression-in-Binary-2.ensures)

pub expression-returns-in_ok-expression-in-Assign : goal.expression-returns-in_ok-expression-in-Assign
expression-returns-in_ok-expression-in-Assign g t c =
    at_node (g.P.Places.edits c.args.places.now) c.args.own.now c.args.around.now c.args.short _ _ _ _ _ _ c.in-Assign.is (expression_assign _ _ _)
    (on_ok_weaker c.expression-in-Assign-2.result (λ s. two c.args.out.now c.expression-in-Assign.new.out c.expression-in-Assign-2.new.out _ _
    (expression_at (g.P.Places.edits c.args.places.now) c.args.own.now c.args.own.now c.args.around.now c.args.around.now _ _ _ _ c.get-in-Assign.ensures refl refl c.in_ok-expression-in-Assign.ensures)
    (expression_at (g.P.Places.edits c.args.places.now) c.args.own.now c.args.own.now c.args.around.now c.args.around.now _ _ _ _ c.get-in-Assign-2.ensures refl refl s)) c.expression-in-Assign-2.ensures)

pub expression-returns-in_ok-expression-in-Update : goal.expression-returns-in_ok-expression-in-Update
expression-returns-in_ok-expression-in-Update g t c =
    at_node (g.P.Places.edits c.args.places.now) c.args.own.now c.args.around.now c.args.short _ _ _ _ _ _ c.in-Update.is (expression_update _ _ _ _)
    (on_ok_weaker c.expression-in-Update-2.result (λ s. two c.args.out.now c.expression-in-Update.new.out c.expression-in-Update-2.new.out _ _
    (expression_at (g.P.Places.edits c.args.places.now) c.args.own.now c.args.own.now c.args.around.now c.args.around.now _ _ _ _ c.get-in-Update.ensures refl refl c.in_ok-expression-in-Update.ensures)
    (expression_at (g.P.Places.edits c.args.places.now) c.args.own.now c.args.own.now c.args.around.now c.args.around.now _ _ _ _ c.get-in-Update-2.ensures refl refl s)) c.expression-in-Update-2.ensures)

pub expression-returns-in-Block : goal.expression-returns-in-Block
expression-returns-in-Block g t c =
    at_node (g.P.Places.edits c.args.places.now) c.args.own.now c.args.around.now c.args.short _ _ _ _ _ _ c.in-Block.is (expression_block _ _)
    (on_ok_weaker c.block.result (block_at (g.P.Places.edits c.args.places.now) c.args.own.now c.args.own.now c.args.around.now c.args.around.now _ _ _ _ c.get-in-Block.ensures refl refl) c.block.ensures)

pub expression-returns-in_ok-block-in-If : goal.expression-returns-in_ok-block-in-If
expression-returns-in_ok-block-in-If g t c =
    at_node (g.P.Places.edits c.args.places.now) c.args.own.now c.args.around.now c.args.short _ _ _ _ _ _ c.in-If.is (expression_if _ _ _ _)
    (on_ok_weaker c.optional.result (λ s. three c.args.out.now c.expression-in-If.new.out c.block-in-If.new.out c.optional.new.out _ _ _
    (expression_at (g.P.Places.edits c.args.places.now) c.args.own.now c.args.own.now c.args.around.now c.args.around.now _ _ _ _ c.get-in-If.ensures refl refl c.in_ok-expression-in-If.ensures)
    (block_at (g.P.Places.edits c.args.places.now) c.args.own.now c.args.own.now c.args.around.now c.args.around.now _ _ _ _ c.get-in-If-2.ensures refl refl c.in_ok-block-in-If.ensures) s) c.optional.ensures)

pub expression-returns-in_ok-block-in-IfLet : goal.expression-returns-in_ok-block-in-IfLet
expression-returns-in_ok-block-in-IfLet g t c =
    at_node (g.P.Places.edits c.args.places.now) c.args.own.now c.args.around.now c.args.short _ _ _ _ _ _ c.in-IfLet.is (expression_if_let _ _ _ _ _)
    (on_ok_weaker c.optional-in-IfLet.result (λ s. three c.args.out.now c.expression-in-IfLet.new.out c.block-in-IfLet.new.out c.optional-in-IfLet.new.out _ _ _
    (expression_at (g.P.Places.edits c.args.places.now) c.args.own.now c.args.own.now c.args.around.now c.args.around.now _ _ _ _ c.get-in-IfLet.ensures refl refl c.in_ok-expression-in-IfLet.ensures)
    (block_at (g.P.Places.edits c.args.places.now) _ (bound (plain-Pattern c.in-IfLet.pattern) ++ c.args.own.now) c.args.around.now c.args.around.now _ _ _ _ c.get-in-IfLet-2.ensures c.in_ok-inner-in-IfLet.ensures refl c.in_ok-block-in-IfLet.ensures) s) c.optional-in-IfLet.ensures)

pub expression-returns-in_ok-expression-in-Match : goal.expression-returns-in_ok-expression-in-Match
expression-returns-in_ok-expression-in-Match g t c =
    at_node (g.P.Places.edits c.args.places.now) c.args.own.now c.args.around.now c.args.short _ _ _ _ _ _ c.in-Match.is (expression_match _ _ _)
    (on_ok_weaker c.arms.result (λ s. two c.args.out.now c.expression-in-Match.new.out c.arms.new.out _ _
    (expression_at (g.P.Places.edits c.args.places.now) c.args.own.now c.args.own.now c.args.around.now c.args.around.now _ _ _ _ c.get-in-Match.ensures refl refl c.in_ok-expression-in-Match.ensures)
    (arms_at (g.P.Places.edits c.args.places.now) c.args.own.now c.args.around.now _ _ _ _ c.as_slice-in-Match.ensures s)) c.arms.ensures)

pub expression-returns-in_ok-inner-in-Loop : goal.expression-returns-in_ok-inner-in-Loop
expression-returns-in_ok-inner-in-Loop g t c =
    at_node (g.P.Places.edits c.args.places.now) c.args.own.now c.args.around.now c.args.short _ _ _ _ _ _ c.in-Loop.is (expression_loop _ _ _)
    (on_ok_weaker c.block-in-Loop.result (block_at (g.P.Places.edits c.args.places.now) c.args.own.now c.args.own.now _ (a_loop c.in-Loop.label 0 ∷ c.args.around.now) _ _ _ _ c.get-in-Loop.ensures refl c.in_ok-inner-in-Loop.ensures) c.block-in-Loop.ensures)

pub expression-returns-in_ok-expression-in-While : goal.expression-returns-in_ok-expression-in-While
expression-returns-in_ok-expression-in-While g t c =
    at_node (g.P.Places.edits c.args.places.now) c.args.own.now c.args.around.now c.args.short _ _ _ _ _ _ c.in-While.is (expression_while _ _ _ _)
    (on_ok_weaker c.block-in-While.result (λ s. two c.args.out.now c.expression-in-While.new.out c.block-in-While.new.out _ _
    (expression_at (g.P.Places.edits c.args.places.now) c.args.own.now c.args.own.now _ (a_test ∷ a_loop c.in-While.label 0 ∷ c.args.around.now) _ _ _ _ c.get-in-While.ensures refl (c.in_ok-tested-in-While.ensures ∙ ap (λ k. a_test ∷ k) c.in_ok-inner-in-While.ensures) c.in_ok-expression-in-While.ensures)
    (block_at (g.P.Places.edits c.args.places.now) c.args.own.now c.args.own.now _ (a_loop c.in-While.label 0 ∷ c.args.around.now) _ _ _ _ c.get-in-While-2.ensures refl c.in_ok-inner-in-While.ensures s)) c.block-in-While.ensures)

pub expression-returns-in_ok-names-in-WhileLet : goal.expression-returns-in_ok-names-in-WhileLet
expression-returns-in_ok-names-in-WhileLet g t c =
    at_node (g.P.Places.edits c.args.places.now) c.args.own.now c.args.around.now c.args.short _ _ _ _ _ _ c.in-WhileLet.is (expression_while_let _ _ _ _ _)
    (on_ok_weaker c.block-in-WhileLet.result (λ s. two c.args.out.now c.expression-in-WhileLet.new.out c.block-in-WhileLet.new.out _ _
    (expression_at (g.P.Places.edits c.args.places.now) c.args.own.now c.args.own.now _ (a_test ∷ a_loop c.in-WhileLet.label 0 ∷ c.args.around.now) _ _ _ _ c.get-in-WhileLet.ensures refl (c.in_ok-tested-in-WhileLet.ensures ∙ ap (λ k. a_test ∷ k) c.in_ok-inner-in-WhileLet.ensures) c.in_ok-expression-in-WhileLet.ensures)
    (block_at (g.P.Places.edits c.args.places.now) _ (bound (plain-Pattern c.in-WhileLet.pattern) ++ c.args.own.now) _ (a_loop c.in-WhileLet.label 0 ∷ c.args.around.now) _ _ _ _ c.get-in-WhileLet-2.ensures c.in_ok-names-in-WhileLet.ensures c.in_ok-inner-in-WhileLet.ensures s)) c.block-in-WhileLet.ensures)

pub expression-returns-in-Break : goal.expression-returns-in-Break
expression-returns-in-Break g t c =
    at_node (g.P.Places.edits c.args.places.now) c.args.own.now c.args.around.now c.args.short _ _ _ _ _ _ c.in-Break.is (expression_break _ _)
    (c.break_at.ensures)

pub expression-returns-in-Continue : goal.expression-returns-in-Continue
expression-returns-in-Continue g t c =
    at_node (g.P.Places.edits c.args.places.now) c.args.own.now c.args.around.now c.args.short _ _ _ _ _ _ c.in-Continue.is (expression_continue _ _)
    (c.continue_at.ensures)

pub expression-returns-in-Return : goal.expression-returns-in-Return
expression-returns-in-Return g t c =
    at_node (g.P.Places.edits c.args.places.now) c.args.own.now c.args.around.now c.args.short _ _ _ _ _ _ c.in-Return.is (expression_return _ _)
    (c.returned.ensures)

pub listed-returns : goal.listed-returns
listed-returns g t c = expressions_end (g.P.Places.edits c.args.places.now) c.args.own.now c.args.around.now c.args.exprs.now c.loop-expr.expr-index c.loop-expr.out _ (omega arith) c.loop-expr.invariant

pub listed-loop-expr-preserved : goal.listed-loop-expr-preserved
listed-loop-expr-preserved g t c =
    expressions_step (g.P.Places.edits c.args.places.now) c.args.own.now c.args.around.now _ _ _ _ _ _ c.loop-expr-test.true c.expr-item.is c.in_ok-expression.ensures c.loop-expr.invariant

pub fields-returns : goal.fields-returns
fields-returns g t c = fields_end (g.P.Places.edits c.args.places.now) c.args.own.now c.args.around.now c.args.fields.now c.loop-field.field-index c.loop-field.out _ (omega arith) c.loop-field.invariant

pub fields-loop-field-preserved : goal.fields-loop-field-preserved
fields-loop-field-preserved g t c =
    fields_step (g.P.Places.edits c.args.places.now) c.args.own.now c.args.around.now _ _ _ _ _ _ c.loop-field-test.true c.field-item.is c.in_ok-one_field.ensures c.loop-field.invariant

pub arms-returns : goal.arms-returns
arms-returns g t c = arms_end (g.P.Places.edits c.args.places.now) c.args.own.now c.args.around.now c.args.arms.now c.loop-arm.arm-index c.loop-arm.out _ (omega arith) c.loop-arm.invariant

pub arms-loop-arm-preserved : goal.arms-loop-arm-preserved
arms-loop-arm-preserved g t c =
    arms_step (g.P.Places.edits c.args.places.now) c.args.own.now c.args.around.now _ _ _ _ _ _ c.loop-arm-test.true c.arm-item.is c.in_ok-one_arm.ensures c.loop-arm.invariant

pub statements-returns : goal.statements-returns
statements-returns g t c = record {
  made = statements_end (g.P.Places.edits c.args.places.now) c.args.around.now c.loop-stmt.own c.args.stmts.now c.loop-stmt.stmt-index c.loop-stmt.out _ (omega arith) c.loop-stmt.invariant.made;
  own = names_end c.loop-stmt.own _ c.args.stmts.now c.loop-stmt.stmt-index (omega arith) c.loop-stmt.invariant.names;
}

pub statements-loop-stmt-preserved : goal.statements-loop-stmt-preserved
statements-loop-stmt-preserved g t c = record {
  names = names_step _ _ _ _ _ _ c.loop-stmt-test.true c.stmt-item.is c.in_ok-enter_statement.ensures c.loop-stmt.invariant.names;
  made = statements_step (g.P.Places.edits c.args.places.now) c.args.around.now _ _ _ _ _ _ _ _ c.loop-stmt-test.true c.stmt-item.is c.in_ok-statement.ensures c.in_ok-enter_statement.ensures c.loop-stmt.invariant.made;
}

pub one_arm-returns : goal.one_arm-returns
one_arm-returns g t c =
    on_ok_weaker c.expression.result (expression_at (g.P.Places.edits c.args.places.now) _ (bound (plain-Pattern c.args.arm.now.pattern) ++ c.args.own.now) c.args.around.now c.args.around.now _ _ _ _ refl c.in_ok-inner.ensures refl) c.expression.ensures

pub block-returns : goal.block-returns
block-returns g t c =
    on_ok_weaker c.optional.result (block_written (g.P.Places.edits c.args.places.now) c.args.own.now c.statements.new.own c.args.around.now c.args.block.now c.args.out.now c.statements.new.out c.optional.new.out
    (statements_at (g.P.Places.edits c.args.places.now) c.in_ok-inner.inner c.args.own.now c.args.around.now _ _ _ _ c.as_slice.ensures c.in_ok-inner.ensures c.in_ok-statements.ensures.made)
    (c.in_ok-statements.ensures.own ∙ ap (λ n. behind_all n (statements_of (map plain-Stmt c.as_slice.result.now))) c.in_ok-inner.ensures
    ∙ ap (λ l. behind_all c.args.own.now (statements_of (map plain-Stmt l))) c.as_slice.ensures)) c.optional.ensures

pub optional-returns-in-Some : goal.optional-returns-in-Some
optional-returns-in-Some g t c =
    on_ok_weaker c.expression.result (present_at (g.P.Places.edits c.args.places.now) c.args.own.now c.args.around.now _ c.in-Some.expr c.get.result.now _ _ c.in-Some.is c.get.ensures) c.expression.ensures

pub optional-returns-in-None : goal.optional-returns-in-None
optional-returns-in-None g t c = absent_at (g.P.Places.edits c.args.places.now) c.args.own.now c.args.around.now _ _ c.in-None.is

pub arguments-returns-after-loop-expr : goal.arguments-returns-after-loop-expr
arguments-returns-after-loop-expr g t c =
    list_at (g.P.Places.edits c.args.places.now) c.args.own.now c.args.around.now _ c.in-Some.given c.as_slice-expr-items.result.now c.args.out.now c.loop-expr.out c.in-Some.is c.as_slice-expr-items.ensures
    (expressions_end (g.P.Places.edits c.args.places.now) c.args.own.now c.args.around.now c.as_slice-expr-items.result.now c.loop-expr.expr-index c.loop-expr.out _ (omega arith) c.loop-expr.invariant)

pub arguments-loop-expr-preserved : goal.arguments-loop-expr-preserved
arguments-loop-expr-preserved g t c =
    expressions_step (g.P.Places.edits c.args.places.now) c.args.own.now c.args.around.now _ _ _ _ _ _ c.loop-expr-test.true c.expr-item.is c.in_ok-expression-in-Some.ensures c.loop-expr.invariant

pub arguments-returns-in-None : goal.arguments-returns-in-None
arguments-returns-in-None g t c = no_list_at (g.P.Places.edits c.args.places.now) c.args.own.now c.args.around.now _ _ c.in-None.is

pub one_field-returns : goal.one_field-returns
one_field-returns g t c =
    on_ok_weaker c.expression.result (λ s. s ∙ ap (λ b. c.args.out.now ++ map written (edits (g.P.Places.edits c.args.places.now) c.args.own.now c.args.around.now b (plain-Expr c.args.field.now.value))) c.is_short-short.ensures) c.expression.ensures

pub returned-returns-in-None : goal.returned-returns-in-None
returned-returns-in-None g t c =
    on_ok_weaker c.return_at.result (return_alone (g.P.Places.edits c.args.places.now) c.args.own.now c.args.around.now c.args.span _ _ _ c.in-None.is) c.return_at.ensures

pub returned-returns-in_ok-expression-in-Some : goal.returned-returns-in_ok-expression-in-Some
returned-returns-in_ok-expression-in-Some g t c =
    on_ok_weaker c.behind_operand.result (return_written (g.P.Places.edits c.args.places.now) c.args.own.now c.args.around.now c.args.span _ c.in-Some.value c.get.result.now _ _ _ _ _ _ c.in-Some.is c.get.ensures c.before_operand.ensures.whole
    c.in_ok-before_operand-in-Some.ensures.text c.in_ok-expression-in-Some.ensures) c.behind_operand.ensures

pub initialiser-returns-in-Some : goal.initialiser-returns-in-Some
initialiser-returns-in-Some g t c =
    on_ok_weaker c.expression.result (present_at (g.P.Places.edits c.args.places.now) c.args.own.now c.args.around.now _ c.in-Some.expr c.in-Some.expr _ _ c.in-Some.is refl) c.expression.ensures

pub initialiser-returns-in-None : goal.initialiser-returns-in-None
initialiser-returns-in-None g t c = absent_at (g.P.Places.edits c.args.places.now) c.args.own.now c.args.around.now _ _ c.in-None.is

pub statement-returns-in_ok-let_type-in-Let : goal.statement-returns-in_ok-let_type-in-Let
statement-returns-in_ok-let_type-in-Let g t c =
    at_statement (g.P.Places.edits c.args.places.now) c.args.own.now c.args.around.now _ _ _ _ _ _ c.in-Let.is (statement_let _ _ _ _)
    (on_ok_weaker c.initialiser.result (two c.args.out.now c.let_type.new.out c.initialiser.new.out _ _ c.in_ok-let_type-in-Let.ensures) c.initialiser.ensures)

pub statement-returns-in-Eval : goal.statement-returns-in-Eval
statement-returns-in-Eval g t c =
    at_statement (g.P.Places.edits c.args.places.now) c.args.own.now c.args.around.now _ _ _ _ _ _ c.in-Eval.is (statement_eval _ _ _)
    (c.expression.ensures)
