-- The invariants of the loops (what is written, and what is left of the list behind it, are the whole text), and the measures of the calls.
use Rattle.std.proofs.Common.{◌≡◌, ◌++◌, ◌+◌, ◌*◌, max, drop, map}
use denote.Param.Weighed.{most}
use Rattle.rx_tree.proofs.tree.Expr.TheLaws as expr
use Rattle.rx_tree.proofs.tree.Block.TheLaws as block
use Rattle.rx_tree.proofs.tree.Arm.TheLaws as arm
use Rattle.rx_tree.specs.PlainOf.{plain-Expr, expressions_of, plain-FieldExpr, field_expressions_of, plain-Arm, arms_of, plain-Stmt, statements_of}
use Rattle.rx_print_spelling.specs.Pieces.{flat, separated}
use Rattle.rx_print_spelling.specs.Expressions.{each, each_field, arms, statements}
use Rattle.rx_print_parts.proofs.WrittenLists.{left_of}
use Rattle.rx_print.proofs.+expressions.Given as goal

abbrev pub invariant-expressions::push_each-loop-e : goal.invariant-expressions::push_each-loop-e
invariant-expressions::push_each-loop-e l =
    l.out ++ flat (left_of l.follows (each l.margin (expressions_of (map plain-Expr (drop l.e-index l.list))))) ≡ l.fn.out ++ flat (separated (each l.margin (expressions_of (map plain-Expr l.list))))

abbrev pub invariant-expressions::push_fields-loop-field : goal.invariant-expressions::push_fields-loop-field
invariant-expressions::push_fields-loop-field l =
    l.out ++ flat (left_of l.follows (each_field l.margin (field_expressions_of (map plain-FieldExpr (drop l.field-index l.list)))))
    ≡ l.fn.out ++ flat (separated (each_field l.margin (field_expressions_of (map plain-FieldExpr l.list))))

abbrev pub invariant-blocks::push_arms-loop-arm : goal.invariant-blocks::push_arms-loop-arm
invariant-blocks::push_arms-loop-arm l = l.out ++ flat (arms l.margin (arms_of (map plain-Arm (drop l.arm-index l.list)))) ≡ l.fn.out ++ flat (arms l.margin (arms_of (map plain-Arm l.list)))

abbrev pub invariant-blocks::push_statements-loop-stmt : goal.invariant-blocks::push_statements-loop-stmt
invariant-blocks::push_statements-loop-stmt l =
    l.out ++ flat (statements l.margin (statements_of (map plain-Stmt (drop l.stmt-index l.list)))) ≡ l.fn.out ++ flat (statements l.margin (statements_of (map plain-Stmt l.list)))

-- ---- that the calls end: by the depth of the tree, and in one depth by the rank of the function

abbrev pub decreases-expressions::push_expression : goal.decreases-expressions::push_expression
decreases-expressions::push_expression l = 8 * (goal.size-expressions::push_expression l)

abbrev pub decreases-expressions::push_between : goal.decreases-expressions::push_between
decreases-expressions::push_between l = 8 * (goal.size-expressions::push_between l) + 1

abbrev pub decreases-expressions::push_member : goal.decreases-expressions::push_member
decreases-expressions::push_member l = 8 * (goal.size-expressions::push_member l) + 2

abbrev pub decreases-expressions::push_part : goal.decreases-expressions::push_part
decreases-expressions::push_part l = 8 * (goal.size-expressions::push_part l) + 2

abbrev pub decreases-expressions::push_unary : goal.decreases-expressions::push_unary
decreases-expressions::push_unary l = 8 * (goal.size-expressions::push_unary l) + 2

abbrev pub decreases-expressions::push_borrowed : goal.decreases-expressions::push_borrowed
decreases-expressions::push_borrowed l = 8 * (goal.size-expressions::push_borrowed l) + 2

abbrev pub decreases-expressions::push_pointer : goal.decreases-expressions::push_pointer
decreases-expressions::push_pointer l = 8 * (goal.size-expressions::push_pointer l) + 3

abbrev pub decreases-expressions::push_binary : goal.decreases-expressions::push_binary
decreases-expressions::push_binary l = 8 * max (goal.size-expressions::push_binary l) (expr.the_size l.b.now) + 2

abbrev pub decreases-expressions::push_assigned : goal.decreases-expressions::push_assigned
decreases-expressions::push_assigned l = 8 * max (goal.size-expressions::push_assigned l) (expr.the_size l.b.now) + 2

abbrev pub decreases-expressions::push_next : goal.decreases-expressions::push_next
decreases-expressions::push_next l = 8 * (goal.size-expressions::push_next l) + 1

abbrev pub decreases-expressions::push_each : goal.decreases-expressions::push_each
decreases-expressions::push_each l = 8 * (goal.size-expressions::push_each l) + 2

abbrev pub decreases-expressions::push_tuple : goal.decreases-expressions::push_tuple
decreases-expressions::push_tuple l = 8 * (goal.size-expressions::push_tuple l) + 3

abbrev pub decreases-expressions::push_arguments : goal.decreases-expressions::push_arguments
decreases-expressions::push_arguments l = 8 * (goal.size-expressions::push_arguments l) + 3

abbrev pub decreases-expressions::push_call : goal.decreases-expressions::push_call
decreases-expressions::push_call l = 8 * (goal.size-expressions::push_call l) + 4

abbrev pub decreases-expressions::push_variant : goal.decreases-expressions::push_variant
decreases-expressions::push_variant l = 8 * (goal.size-expressions::push_variant l) + 4

abbrev pub decreases-expressions::push_field : goal.decreases-expressions::push_field
decreases-expressions::push_field l = 8 * (goal.size-expressions::push_field l) + 1

abbrev pub decreases-expressions::push_fields : goal.decreases-expressions::push_fields
decreases-expressions::push_fields l = 8 * (goal.size-expressions::push_fields l) + 2

abbrev pub decreases-expressions::push_braces : goal.decreases-expressions::push_braces
decreases-expressions::push_braces l = 8 * (goal.size-expressions::push_braces l) + 3

abbrev pub decreases-expressions::push_make : goal.decreases-expressions::push_make
decreases-expressions::push_make l = 8 * (goal.size-expressions::push_make l) + 4

abbrev pub decreases-expressions::push_if : goal.decreases-expressions::push_if
decreases-expressions::push_if l = 8 * max (goal.size-expressions::push_if l) (block.the_size l.body.now) + 2

abbrev pub decreases-expressions::push_if_else : goal.decreases-expressions::push_if_else
decreases-expressions::push_if_else l = 8 * max (goal.size-expressions::push_if_else l) (max (block.the_size l.body.now) (expr.the_size l.e.now)) + 3

abbrev pub decreases-expressions::push_fitted : goal.decreases-expressions::push_fitted
decreases-expressions::push_fitted l = 8 * (expr.the_size l.e.now) + 2

abbrev pub decreases-expressions::push_if_let : goal.decreases-expressions::push_if_let
decreases-expressions::push_if_let l = 8 * max (expr.the_size l.e.now) (block.the_size l.body.now) + 3

abbrev pub decreases-expressions::push_if_let_else : goal.decreases-expressions::push_if_let_else
decreases-expressions::push_if_let_else l = 8 * max (expr.the_size l.e.now) (max (block.the_size l.body.now) (expr.the_size l.other.now)) + 4

abbrev pub decreases-expressions::push_while_let : goal.decreases-expressions::push_while_let
decreases-expressions::push_while_let l = 8 * max (expr.the_size l.e.now) (block.the_size l.body.now) + 3

abbrev pub decreases-expressions::push_loop : goal.decreases-expressions::push_loop
decreases-expressions::push_loop l = 8 * (goal.size-expressions::push_loop l) + 1

abbrev pub decreases-expressions::push_while : goal.decreases-expressions::push_while
decreases-expressions::push_while l = 8 * max (goal.size-expressions::push_while l) (block.the_size l.body.now) + 2

abbrev pub decreases-blocks::push_arm : goal.decreases-blocks::push_arm
decreases-blocks::push_arm l = 8 * (goal.size-blocks::push_arm l) + 2

abbrev pub decreases-blocks::push_arms : goal.decreases-blocks::push_arms
decreases-blocks::push_arms l = 8 * (goal.size-blocks::push_arms l) + 3

abbrev pub decreases-blocks::push_match : goal.decreases-blocks::push_match
decreases-blocks::push_match l = 8 * max (goal.size-blocks::push_match l) (most arm.the_size l.list.now) + 4

abbrev pub decreases-blocks::push_statement : goal.decreases-blocks::push_statement
decreases-blocks::push_statement l = 8 * (goal.size-blocks::push_statement l) + 2

abbrev pub decreases-blocks::push_next_statement : goal.decreases-blocks::push_next_statement
decreases-blocks::push_next_statement l = 8 * (goal.size-blocks::push_next_statement l) + 3

abbrev pub decreases-blocks::push_statements : goal.decreases-blocks::push_statements
decreases-blocks::push_statements l = 8 * (goal.size-blocks::push_statements l) + 4

abbrev pub decreases-blocks::push_bare : goal.decreases-blocks::push_bare
decreases-blocks::push_bare l = 8 * (goal.size-blocks::push_bare l) + 5

abbrev pub decreases-blocks::push_value : goal.decreases-blocks::push_value
decreases-blocks::push_value l = 8 * (goal.size-blocks::push_value l) + 2

abbrev pub decreases-blocks::push_valued : goal.decreases-blocks::push_valued
decreases-blocks::push_valued l = 8 * max (goal.size-blocks::push_valued l) (expr.the_size l.e.now) + 5

abbrev pub decreases-blocks::push_block : goal.decreases-blocks::push_block
decreases-blocks::push_block l = 8 * (goal.size-blocks::push_block l)

abbrev pub decreases-expressions::push_print : goal.decreases-expressions::push_print
decreases-expressions::push_print l = 8 * (goal.size-expressions::push_print l) + 2
