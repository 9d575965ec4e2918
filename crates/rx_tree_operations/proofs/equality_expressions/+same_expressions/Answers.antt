-- The heads and the parts decide; the measures of the calls are by the sizes of the plain trees.
use Rattle.std.proofs.Common.{◌+◌, ◌*◌, arith}
use Rattle.rx_tree.specs.PlainOf.{plain-Expr}
use Rattle.rx_tree_operations.specs.PlainParts.{plain-Parts}
use Rattle.rx_tree_operations.proofs.ApartStatements.{arms_lengths, expressions_lengths, fields_lengths, statement_eval_apart, statement_let_apart, statements_lengths}
use Rattle.rx_tree_operations.proofs.PartsLemmas.{same_by_parts}
use Rattle.rx_tree_operations.proofs.Sizes.{parts_smaller, expressions_bound, fields_bound, arms_bound, statements_bound}
use Rattle.rx_tree_operations.proofs.equality_expressions.+same_expressions.Goals as goal

pub same_statement-returns-in_default : goal.same_statement-returns-in_default
same_statement-returns-in_default t c = statement_let_apart _ _ _ _ _ c.in-Let.is c.in_default.not-Let

pub same_statement-returns-in_default-node : goal.same_statement-returns-in_default-node
same_statement-returns-in_default-node t c = statement_eval_apart _ _ _ _ c.in-Eval.is c.in_default-node.not-Eval

pub same_expressions-returns-then-a-b : goal.same_expressions-returns-then-a-b
same_expressions-returns-then-a-b t c = expressions_lengths c.args.a.now c.args.b.now c.if-a-b.true

pub same_fields-returns-then-a-b : goal.same_fields-returns-then-a-b
same_fields-returns-then-a-b t c = fields_lengths c.args.a.now c.args.b.now c.if-a-b.true

pub same_arms-returns-then-a-b : goal.same_arms-returns-then-a-b
same_arms-returns-then-a-b t c = arms_lengths c.args.a.now c.args.b.now c.if-a-b.true

pub same_statements-returns-then-a-b : goal.same_statements-returns-then-a-b
same_statements-returns-then-a-b t c = statements_lengths c.args.a.now c.args.b.now c.if-a-b.true

pub same_expression-returns : goal.same_expression-returns
same_expression-returns t c =
    same_by_parts c.same_parts.result (plain-Parts c.parts_of-one.result) (plain-Parts c.parts_of-other.result) (plain-Expr c.args.a.now) (plain-Expr c.args.b.now)
    c.parts_of-one.ensures c.parts_of-other.ensures c.same_parts.ensures

pub same_expression-same_parts-requires : goal.same_expression-same_parts-requires
same_expression-same_parts-requires t c =
    let less = parts_smaller (plain-Parts c.parts_of-one.result) (plain-Expr c.args.a.now) c.parts_of-one.ensures in
    let bound = c.decreases in
    (omega (arith, less, bound), tt)

pub same_expressions-same_expression-requires : goal.same_expressions-same_expression-requires
same_expressions-same_expression-requires t c =
    let within = expressions_bound c.args.a.now c.loop-i.i c.index-a-i.result c.loop-i-test.true c.index-a-i.is in
    let bound = c.decreases in
    (omega (arith, within, bound), tt)

pub same_fields-same_field-requires : goal.same_fields-same_field-requires
same_fields-same_field-requires t c =
    let within = fields_bound c.args.a.now c.loop-i.i c.index-a-i.result c.loop-i-test.true c.index-a-i.is in
    let bound = c.decreases in
    (omega (arith, within, bound), tt)

pub same_arms-same_arm-requires : goal.same_arms-same_arm-requires
same_arms-same_arm-requires t c =
    let within = arms_bound c.args.a.now c.loop-i.i c.index-a-i.result c.loop-i-test.true c.index-a-i.is in
    let bound = c.decreases in
    (omega (arith, within, bound), tt)

pub same_statements-same_statement-requires : goal.same_statements-same_statement-requires
same_statements-same_statement-requires t c =
    let within = statements_bound c.args.a.now c.loop-i.i c.index-a-i.result c.loop-i-test.true c.index-a-i.is in
    let bound = c.decreases in
    (omega (arith, within, bound), tt)
