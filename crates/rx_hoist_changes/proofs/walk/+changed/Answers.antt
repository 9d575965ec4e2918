-- What becomes of a node, by its form, and of the lists of parts.
use Rattle.std.proofs.Common.{◌∷◌, ◌++◌, map, ap, ◌∙◌, refl, arith}
use Rattle.rx_tree.specs.Plain as plain
use Rattle.rx_tree.specs.PlainOf.{plain-Expr, plain-Pattern, plain-FieldExpr, plain-Arm, plain-Stmt, expressions_of, expression_int, expression_bool, expression_tuple, expression_var, expression_field, expression_part, expression_deref, expression_neg, expression_not, expression_borrow, expression_binary, expression_assign, expression_update, expression_call, expression_nextinput, expression_variant, expression_make, expression_print, expression_block, expression_if, expression_if_let, expression_match, expression_loop, expression_while, expression_while_let, expression_break, expression_continue, expression_return, statement_let, statement_eval}
use Rattle.rx_resolve_names.specs.Meant.{a_loop, a_test}
use Rattle.rx_hoist_extraction.specs.Names.{bound}
use Rattle.rx_hoist_extraction.specs.Changed.{changed, changed_all}
use Rattle.rx_hoist_changes.proofs.NodeLemmas.{at_node, at_statement, made_at, expression_here, block_here, list_here, fields_here, arms_here, present_made, absent_made, list_made, no_list_made, return_made, block_made}
use Rattle.rx_hoist_changes.proofs.ListLemmas.{field_changed, arm_changed, made_next, all_made, fields_made, arms_made, statements_made, names_behind, field_made, arm_made, names_next, statement_next, given_on}
use Rattle.rx_hoist_changes.proofs.walk.+changed.Goals as goal

pub expression-returns-in-Int : goal.expression-returns-in-Int
expression-returns-in-Int g t c = made_at (g.P.Places.changes c.args.places.now) c.args.own.now c.args.around.now _ _ _ _ c.in-Int.is (expression_int _ _ _) (expression_int _ _ _ ∙ ap (plain.int c.args.expr.now.span c.in-Int.value) c.suffix.ensures)

pub expression-returns-in-Bool : goal.expression-returns-in-Bool
expression-returns-in-Bool g t c = made_at (g.P.Places.changes c.args.places.now) c.args.own.now c.args.around.now _ _ _ _ c.in-Bool.is (expression_bool _ _) (expression_bool _ _)

pub expression-returns-in-NextInput : goal.expression-returns-in-NextInput
expression-returns-in-NextInput g t c = made_at (g.P.Places.changes c.args.places.now) c.args.own.now c.args.around.now _ _ _ _ c.in-NextInput.is (expression_nextinput _) (expression_nextinput _)

pub expression-returns-in-Tuple : goal.expression-returns-in-Tuple
expression-returns-in-Tuple g t c =
    at_node (g.P.Places.changes c.args.places.now) c.args.own.now c.args.around.now _ _ _ _ c.in-Tuple.is (expression_tuple _ _)
    (c.tuple.ensures _ (list_here _ _ _ _ _ _ c.listed.ensures c.as_slice.ensures))

pub expression-returns-in-Var : goal.expression-returns-in-Var
expression-returns-in-Var g t c = at_node (g.P.Places.changes c.args.places.now) c.args.own.now c.args.around.now _ _ _ _ c.in-Var.is (expression_var _ _) (c.variable.ensures)

pub expression-returns-in-Field : goal.expression-returns-in-Field
expression-returns-in-Field g t c =
    at_node (g.P.Places.changes c.args.places.now) c.args.own.now c.args.around.now _ _ _ _ c.in-Field.is (expression_field _ _ _)
    (c.field.ensures _ _ (expression_here (g.P.Places.changes c.args.places.now) c.args.own.now c.args.around.now _ _ _ _ _ c.expression.ensures c.get.ensures refl refl) c.copy.ensures)

pub expression-returns-in-Part : goal.expression-returns-in-Part
expression-returns-in-Part g t c =
    at_node (g.P.Places.changes c.args.places.now) c.args.own.now c.args.around.now _ _ _ _ c.in-Part.is (expression_part _ _ _)
    (c.part.ensures _ (expression_here (g.P.Places.changes c.args.places.now) c.args.own.now c.args.around.now _ _ _ _ _ c.expression-in-Part.ensures c.get-in-Part.ensures refl refl))

pub expression-returns-in-Deref : goal.expression-returns-in-Deref
expression-returns-in-Deref g t c =
    at_node (g.P.Places.changes c.args.places.now) c.args.own.now c.args.around.now _ _ _ _ c.in-Deref.is (expression_deref _ _)
    (c.deref.ensures _ (expression_here (g.P.Places.changes c.args.places.now) c.args.own.now c.args.around.now _ _ _ _ _ c.expression-in-Deref.ensures c.get-in-Deref.ensures refl refl))

pub expression-returns-in-Neg : goal.expression-returns-in-Neg
expression-returns-in-Neg g t c =
    at_node (g.P.Places.changes c.args.places.now) c.args.own.now c.args.around.now _ _ _ _ c.in-Neg.is (expression_neg _ _)
    (c.negate.ensures _ (expression_here (g.P.Places.changes c.args.places.now) c.args.own.now c.args.around.now _ _ _ _ _ c.expression-in-Neg.ensures c.get-in-Neg.ensures refl refl))

pub expression-returns-in-Not : goal.expression-returns-in-Not
expression-returns-in-Not g t c =
    at_node (g.P.Places.changes c.args.places.now) c.args.own.now c.args.around.now _ _ _ _ c.in-Not.is (expression_not _ _)
    (c.invert.ensures _ (expression_here (g.P.Places.changes c.args.places.now) c.args.own.now c.args.around.now _ _ _ _ _ c.expression-in-Not.ensures c.get-in-Not.ensures refl refl))

pub expression-returns-in-Borrow : goal.expression-returns-in-Borrow
expression-returns-in-Borrow g t c =
    at_node (g.P.Places.changes c.args.places.now) c.args.own.now c.args.around.now _ _ _ _ c.in-Borrow.is (expression_borrow _ _ _)
    (c.borrow.ensures _ (expression_here (g.P.Places.changes c.args.places.now) c.args.own.now c.args.around.now _ _ _ _ _ c.expression-in-Borrow.ensures c.get-in-Borrow.ensures refl refl))

pub expression-returns-in-Print : goal.expression-returns-in-Print
expression-returns-in-Print g t c =
    at_node (g.P.Places.changes c.args.places.now) c.args.own.now c.args.around.now _ _ _ _ c.in-Print.is (expression_print _ _)
    (c.print.ensures _ (expression_here (g.P.Places.changes c.args.places.now) c.args.own.now c.args.around.now _ _ _ _ _ c.expression-in-Print.ensures c.get-in-Print.ensures refl refl))

pub expression-returns-in-Binary : goal.expression-returns-in-Binary
expression-returns-in-Binary g t c =
    at_node (g.P.Places.changes c.args.places.now) c.args.own.now c.args.around.now _ _ _ _ c.in-Binary.is (expression_binary _ _ _ _)
    (c.binary.ensures _ _ (expression_here (g.P.Places.changes c.args.places.now) c.args.own.now c.args.around.now _ _ _ _ _ c.expression-in-Binary.ensures c.get-in-Binary.ensures refl refl)
    (expression_here (g.P.Places.changes c.args.places.now) c.args.own.now c.args.around.now _ _ _ _ _ c.expression-in-Binary-2.ensures c.get-in-Binary-2.ensures refl refl))

pub expression-returns-in-Assign : goal.expression-returns-in-Assign
expression-returns-in-Assign g t c =
    at_node (g.P.Places.changes c.args.places.now) c.args.own.now c.args.around.now _ _ _ _ c.in-Assign.is (expression_assign _ _ _)
    (c.assign.ensures _ _ (expression_here (g.P.Places.changes c.args.places.now) c.args.own.now c.args.around.now _ _ _ _ _ c.expression-in-Assign.ensures c.get-in-Assign.ensures refl refl)
    (expression_here (g.P.Places.changes c.args.places.now) c.args.own.now c.args.around.now _ _ _ _ _ c.expression-in-Assign-2.ensures c.get-in-Assign-2.ensures refl refl))

pub expression-returns-in-Update : goal.expression-returns-in-Update
expression-returns-in-Update g t c =
    at_node (g.P.Places.changes c.args.places.now) c.args.own.now c.args.around.now _ _ _ _ c.in-Update.is (expression_update _ _ _ _)
    (c.update.ensures _ _ (expression_here (g.P.Places.changes c.args.places.now) c.args.own.now c.args.around.now _ _ _ _ _ c.expression-in-Update.ensures c.get-in-Update.ensures refl refl)
    (expression_here (g.P.Places.changes c.args.places.now) c.args.own.now c.args.around.now _ _ _ _ _ c.expression-in-Update-2.ensures c.get-in-Update-2.ensures refl refl))

pub expression-returns-in-Call : goal.expression-returns-in-Call
expression-returns-in-Call g t c =
    at_node (g.P.Places.changes c.args.places.now) c.args.own.now c.args.around.now _ _ _ _ c.in-Call.is (expression_call _ _ _)
    (c.call.ensures _ _ c.copy-in-Call.ensures (list_here _ _ _ _ _ _ c.listed-in-Call.ensures c.as_slice-in-Call.ensures))

pub expression-returns-in-Variant : goal.expression-returns-in-Variant
expression-returns-in-Variant g t c = at_node (g.P.Places.changes c.args.places.now) c.args.own.now c.args.around.now _ _ _ _ c.in-Variant.is (expression_variant _ _ _ _) (c.variant.ensures _ _ _ c.copy-in-Variant.ensures c.copy-in-Variant-2.ensures c.arguments.ensures)

pub expression-returns-in-Make : goal.expression-returns-in-Make
expression-returns-in-Make g t c =
    at_node (g.P.Places.changes c.args.places.now) c.args.own.now c.args.around.now _ _ _ _ c.in-Make.is (expression_make _ _ _)
    (c.make.ensures _ _ c.copy-in-Make.ensures (fields_here _ _ _ _ _ _ c.fields.ensures c.as_slice-in-Make.ensures))

pub expression-returns-in-Block : goal.expression-returns-in-Block
expression-returns-in-Block g t c =
    at_node (g.P.Places.changes c.args.places.now) c.args.own.now c.args.around.now _ _ _ _ c.in-Block.is (expression_block _ _)
    (c.nested.ensures _ (block_here (g.P.Places.changes c.args.places.now) c.args.own.now c.args.around.now _ _ _ _ _ c.block.ensures c.get-in-Block.ensures refl refl))

pub expression-returns-in-If : goal.expression-returns-in-If
expression-returns-in-If g t c =
    at_node (g.P.Places.changes c.args.places.now) c.args.own.now c.args.around.now _ _ _ _ c.in-If.is (expression_if _ _ _ _)
    (c.branch-alloc.ensures _ _ _ (expression_here (g.P.Places.changes c.args.places.now) c.args.own.now c.args.around.now _ _ _ _ _ c.expression-in-If.ensures c.get-in-If.ensures refl refl)
    (block_here (g.P.Places.changes c.args.places.now) c.args.own.now c.args.around.now _ _ _ _ _ c.block-in-If.ensures c.get-in-If-2.ensures refl refl) c.optional.ensures)

pub expression-returns-in-Match : goal.expression-returns-in-Match
expression-returns-in-Match g t c =
    at_node (g.P.Places.changes c.args.places.now) c.args.own.now c.args.around.now _ _ _ _ c.in-Match.is (expression_match _ _ _)
    (c.cases.ensures _ _ (expression_here (g.P.Places.changes c.args.places.now) c.args.own.now c.args.around.now _ _ _ _ _ c.expression-in-Match.ensures c.get-in-Match.ensures refl refl)
    (arms_here _ _ _ _ _ _ c.arms.ensures c.as_slice-in-Match.ensures))

pub expression-returns-in-Break : goal.expression-returns-in-Break
expression-returns-in-Break g t c = at_node (g.P.Places.changes c.args.places.now) c.args.own.now c.args.around.now _ _ _ _ c.in-Break.is (expression_break _ _) (c.break_at.ensures)

pub expression-returns-in-Continue : goal.expression-returns-in-Continue
expression-returns-in-Continue g t c = at_node (g.P.Places.changes c.args.places.now) c.args.own.now c.args.around.now _ _ _ _ c.in-Continue.is (expression_continue _ _) (c.continue_at.ensures)

pub expression-returns-in_ok-inner-in-IfLet : goal.expression-returns-in_ok-inner-in-IfLet
expression-returns-in_ok-inner-in-IfLet g t c =
    at_node (g.P.Places.changes c.args.places.now) c.args.own.now c.args.around.now _ _ _ _ c.in-IfLet.is (expression_if_let _ _ _ _ _)
    (c.branch_fitting.ensures _ _ _ _ c.copy-in-IfLet.ensures (expression_here (g.P.Places.changes c.args.places.now) c.args.own.now c.args.around.now _ _ _ _ _ c.expression-in-IfLet.ensures c.get-in-IfLet.ensures refl refl)
    (block_here (g.P.Places.changes c.args.places.now) (bound (plain-Pattern c.in-IfLet.pattern) ++ c.args.own.now) c.args.around.now _ _ _ _ _ c.block-in-IfLet.ensures c.get-in-IfLet-2.ensures c.in_ok-inner-in-IfLet.ensures refl)
    c.optional-in-IfLet.ensures)

pub expression-returns-in_ok-inner-in-Loop : goal.expression-returns-in_ok-inner-in-Loop
expression-returns-in_ok-inner-in-Loop g t c =
    at_node (g.P.Places.changes c.args.places.now) c.args.own.now c.args.around.now _ _ _ _ c.in-Loop.is (expression_loop _ _ _)
    (c.repeated.ensures _ _ c.copy-in-Loop.ensures
    (block_here (g.P.Places.changes c.args.places.now) c.args.own.now (a_loop c.in-Loop.label 0 ∷ c.args.around.now) _ _ _ _ _ c.block-in-Loop.ensures c.get-in-Loop.ensures refl c.in_ok-inner-in-Loop.ensures))

pub expression-returns-in_ok-tested-in-While : goal.expression-returns-in_ok-tested-in-While
expression-returns-in_ok-tested-in-While g t c =
    at_node (g.P.Places.changes c.args.places.now) c.args.own.now c.args.around.now _ _ _ _ c.in-While.is (expression_while _ _ _ _)
    (c.while_true.ensures _ _ _ c.copy-in-While.ensures
    (expression_here (g.P.Places.changes c.args.places.now) c.args.own.now (a_test ∷ a_loop c.in-While.label 0 ∷ c.args.around.now) _ _ _ _ _ c.expression-in-While.ensures c.get-in-While.ensures refl (c.in_ok-tested-in-While.ensures ∙ ap (λ k. a_test ∷ k) c.in_ok-inner-in-While.ensures))
    (block_here (g.P.Places.changes c.args.places.now) c.args.own.now (a_loop c.in-While.label 0 ∷ c.args.around.now) _ _ _ _ _ c.block-in-While.ensures c.get-in-While-2.ensures refl c.in_ok-inner-in-While.ensures))

pub expression-returns-in_ok-names-in-WhileLet : goal.expression-returns-in_ok-names-in-WhileLet
expression-returns-in_ok-names-in-WhileLet g t c =
    at_node (g.P.Places.changes c.args.places.now) c.args.own.now c.args.around.now _ _ _ _ c.in-WhileLet.is (expression_while_let _ _ _ _ _)
    (c.while_fitting.ensures _ _ _ _ c.copy-in-WhileLet.ensures c.copy-in-WhileLet-2.ensures
    (expression_here (g.P.Places.changes c.args.places.now) c.args.own.now (a_test ∷ a_loop c.in-WhileLet.label 0 ∷ c.args.around.now) _ _ _ _ _ c.expression-in-WhileLet.ensures c.get-in-WhileLet.ensures refl (c.in_ok-tested-in-WhileLet.ensures ∙ ap (λ k. a_test ∷ k) c.in_ok-inner-in-WhileLet.ensures))
    (block_here (g.P.Places.changes c.args.places.now) (bound (plain-Pattern c.in-WhileLet.pattern) ++ c.args.own.now) (a_loop c.in-WhileLet.label 0 ∷ c.args.around.now) _ _ _ _ _ c.block-in-WhileLet.ensures c.get-in-WhileLet-2.ensures c.in_ok-names-in-WhileLet.ensures c.in_ok-inner-in-WhileLet.ensures))

pub expression-returns-in_ok-value-in-Return : goal.expression-returns-in_ok-value-in-Return
expression-returns-in_ok-value-in-Return g t c =
    at_node (g.P.Places.changes c.args.places.now) c.args.own.now c.args.around.now _ _ _ _ c.in-Return.is (expression_return _ _)
    (return_made (g.P.Places.changes c.args.places.now) _ _ _ _ c.in_ok-value-in-Return.ensures c.return_at.ensures)

pub optional-returns-in_ok-new-in-Some : goal.optional-returns-in_ok-new-in-Some
optional-returns-in_ok-new-in-Some g t c =
    present_made (g.P.Places.changes c.args.places.now) c.args.own.now c.args.around.now _ _ _ c.in-Some.is
    (ap plain-Expr c.in_ok-new-in-Some.ensures ∙ c.in_ok-inner-in-Some.ensures ∙ ap (λ e. changed (g.P.Places.changes c.args.places.now) c.args.own.now c.args.around.now (plain-Expr e)) c.get.ensures)

pub initialiser-returns-in_ok-expression-in-Some : goal.initialiser-returns-in_ok-expression-in-Some
initialiser-returns-in_ok-expression-in-Some g t c = present_made (g.P.Places.changes c.args.places.now) c.args.own.now c.args.around.now _ _ _ c.in-Some.is c.in_ok-expression-in-Some.ensures

pub one_arm-returns : goal.one_arm-returns
one_arm-returns g t c =
    c.arm.ensures _ _ c.copy.ensures
    (expression_here (g.P.Places.changes c.args.places.now) (bound (plain-Pattern c.args.arm.now.pattern) ++ c.args.own.now) c.args.around.now _ _ _ _ _ c.expression.ensures refl c.in_ok-inner.ensures refl)

pub block-returns : goal.block-returns
block-returns g t c =
    block_made (g.P.Places.changes c.args.places.now) c.args.own.now c.args.around.now c.args.block.now c.in_ok-inner.inner c.statements.new.own c.statements.new.own c.as_slice.result.now c.in_ok-stmts.stmts c.in_ok-tail.stmts c.in_ok-tail.tail
    c.block.result c.optional.result c.in_ok-stmts.ensures.made c.in_ok-stmts.ensures.own c.optional.ensures c.block.ensures
    c.in_ok-tail.ensures.0 c.in_ok-tail.ensures.1 c.as_slice.ensures c.in_ok-inner.ensures refl

pub listed-returns : goal.listed-returns
listed-returns g t c = all_made _ _ _ _ _ _ c.loop-expr.invariant (omega arith)

pub fields-returns : goal.fields-returns
fields-returns g t c = fields_made _ _ _ _ _ _ c.loop-field.invariant (omega arith)

pub arms-returns : goal.arms-returns
arms-returns g t c = arms_made _ _ _ _ _ _ c.loop-arm.invariant (omega arith)

pub listed-loop-expr-preserved : goal.listed-loop-expr-preserved
listed-loop-expr-preserved g t c =
    made_next plain-Expr plain-Expr (changed (g.P.Places.changes c.args.places.now) c.args.own.now c.args.around.now) _ _ _ _ _ _ _ _ c.loop-expr.invariant c.loop-expr-test.true c.expr-item.is c.expression.ensures
    c.in_ok-next.ensures.0 c.in_ok-next.ensures.1 c.in_ok-all.ensures

pub fields-loop-field-preserved : goal.fields-loop-field-preserved
fields-loop-field-preserved g t c =
    made_next plain-FieldExpr plain-FieldExpr (field_changed (g.P.Places.changes c.args.places.now) c.args.own.now c.args.around.now) _ _ _ _ _ _ _ _ c.loop-field.invariant c.loop-field-test.true c.field-item.is (field_made _ _ _ _ _ c.one_field.ensures)
    c.in_ok-next.ensures.0 c.in_ok-next.ensures.1 c.in_ok-all.ensures

pub arms-loop-arm-preserved : goal.arms-loop-arm-preserved
arms-loop-arm-preserved g t c =
    made_next plain-Arm plain-Arm (arm_changed (g.P.Places.changes c.args.places.now) c.args.own.now c.args.around.now) _ _ _ _ _ _ _ _ c.loop-arm.invariant c.loop-arm-test.true c.arm-item.is (arm_made _ _ _ _ _ c.one_arm.ensures)
    c.in_ok-next.ensures.0 c.in_ok-next.ensures.1 c.in_ok-all.ensures

pub one_field-returns : goal.one_field-returns
one_field-returns g t c = c.field_value.ensures _ _ c.copy.ensures c.expression.ensures

pub statements-returns : goal.statements-returns
statements-returns g t c = record {
  made = statements_made (g.P.Places.changes c.args.places.now) c.args.own.now c.args.around.now c.loop-stmt.all c.args.stmts.now c.loop-stmt.stmt-index c.loop-stmt.invariant.made (omega arith);
  own = names_behind c.args.own.now c.loop-stmt.own c.args.stmts.now c.loop-stmt.stmt-index c.loop-stmt.invariant.names (omega arith);
}

pub statements-loop-stmt-preserved : goal.statements-loop-stmt-preserved
statements-loop-stmt-preserved g t c = record {
  names = names_next _ _ _ _ _ _ _ _ c.loop-stmt.invariant.names c.loop-stmt-test.true c.stmt-item.is c.next_statement.ensures.own c.in_ok-next.ensures.0;
  made = statement_next _ _ _ _ _ _ _ _ _ _ _ _ c.loop-stmt.invariant.names c.loop-stmt.invariant.made c.loop-stmt-test.true c.stmt-item.is c.next_statement.ensures.made
      c.in_ok-next.ensures.0 c.in_ok-next.ensures.1 c.in_ok-all.ensures;
}

pub next_statement-returns : goal.next_statement-returns
next_statement-returns g t c = record {
  made = ap plain-Stmt c.in_ok-next-2.ensures.1 ∙ c.in_ok-next.ensures;
  own = given_on _ _ _ c.in_ok-next-2.ensures.0 c.enter_statement.ensures;
}

pub statement-returns-in-Let : goal.statement-returns-in-Let
statement-returns-in-Let g t c = at_statement (g.P.Places.changes c.args.places.now) c.args.own.now c.args.around.now _ _ _ _ c.in-Let.is (statement_let _ _ _ _) (c.let_statement.ensures _ _ _ c.copy.ensures c.let_type.ensures c.initialiser.ensures)

pub statement-returns-in-Eval : goal.statement-returns-in-Eval
statement-returns-in-Eval g t c = at_statement (g.P.Places.changes c.args.places.now) c.args.own.now c.args.around.now _ _ _ _ c.in-Eval.is (statement_eval _ _ _) (c.eval.ensures _ c.expression.ensures)

pub optional-returns-in-None : goal.optional-returns-in-None
optional-returns-in-None g t c = absent_made (g.P.Places.changes c.args.places.now) c.args.own.now c.args.around.now _ c.in-None.is

pub initialiser-returns-in-None : goal.initialiser-returns-in-None
initialiser-returns-in-None g t c = absent_made (g.P.Places.changes c.args.places.now) c.args.own.now c.args.around.now _ c.in-None.is

pub arguments-returns-in-None : goal.arguments-returns-in-None
arguments-returns-in-None g t c = no_list_made (g.P.Places.changes c.args.places.now) c.args.own.now c.args.around.now _ c.in-None.is

pub arguments-returns-after-loop-expr : goal.arguments-returns-after-loop-expr
arguments-returns-after-loop-expr g t c =
    list_made (g.P.Places.changes c.args.places.now) c.args.own.now c.args.around.now _ c.in-Some.given _ c.in-Some.is
    (all_made (g.P.Places.changes c.args.places.now) c.args.own.now c.args.around.now c.loop-expr.all c.as_slice-expr-items.result.now c.loop-expr.expr-index c.loop-expr.invariant (omega arith)
    ∙ ap (λ l. changed_all (g.P.Places.changes c.args.places.now) c.args.own.now c.args.around.now (expressions_of (map plain-Expr l))) c.as_slice-expr-items.ensures)

pub arguments-loop-expr-preserved : goal.arguments-loop-expr-preserved
arguments-loop-expr-preserved g t c =
    made_next plain-Expr plain-Expr (changed (g.P.Places.changes c.args.places.now) c.args.own.now c.args.around.now) _ _ _ _ _ _ _ _ c.loop-expr.invariant c.loop-expr-test.true c.expr-item.is c.expression.ensures
    c.in_ok-next-in-Some.ensures.0 c.in_ok-next-in-Some.ensures.1 c.in_ok-all-in-Some.ensures
