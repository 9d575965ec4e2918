use Rattle.std.proofs.Common.{◌≡◌, ◌↔◌, ◌+◌, ◌*◌, length, drop, map, option_map}
use Rattle.rx_tree.specs.PlainOf.{plain-Expr, expressions_of, optional_of, plain-FieldExpr, field_expressions_of, plain-Arm, arms_of, plain-Block, plain-Stmt, statements_of}
use Rattle.rx_tree_operations.specs.PlainParts.{plain-Parts}
use Rattle.rx_tree_operations.proofs.Sizes.{size, size_all, size_optional, size_fields, size_field, size_arms, size_arm, size_body, size_block, size_statement, size_statements, size_parts}
use Rattle.rx_tree_operations.proofs.ApartStatements.{expressions_seen, fields_seen, arms_seen, statements_seen}
use Rattle.rx_tree_operations.proofs.equality_expressions.+same_expressions.Given as goal

abbrev pub invariant-same_expressions-loop-i : goal.invariant-same_expressions-loop-i
invariant-same_expressions-loop-i l = record {
  len : length l.a ≡ length l.b;
  rest : (expressions_seen (drop l.i l.a) ≡ expressions_seen (drop l.i l.b)) ↔ (expressions_seen l.a ≡ expressions_seen l.b);
}

abbrev pub invariant-same_fields-loop-i : goal.invariant-same_fields-loop-i
invariant-same_fields-loop-i l = record {
  len : length l.a ≡ length l.b;
  rest : (fields_seen (drop l.i l.a) ≡ fields_seen (drop l.i l.b)) ↔ (fields_seen l.a ≡ fields_seen l.b);
}

abbrev pub invariant-same_arms-loop-i : goal.invariant-same_arms-loop-i
invariant-same_arms-loop-i l = record {
  len : length l.a ≡ length l.b;
  rest : (arms_seen (drop l.i l.a) ≡ arms_seen (drop l.i l.b)) ↔ (arms_seen l.a ≡ arms_seen l.b);
}

abbrev pub invariant-same_statements-loop-i : goal.invariant-same_statements-loop-i
invariant-same_statements-loop-i l = record {
  len : length l.a ≡ length l.b;
  rest : (statements_seen (drop l.i l.a) ≡ statements_seen (drop l.i l.b)) ↔ (statements_seen l.a ≡ statements_seen l.b);
}

-- by the size of the tree, and in one size by the rank of the function
abbrev pub decreases-same_expression : goal.decreases-same_expression
decreases-same_expression l = 5 * size (plain-Expr l.a.now)

abbrev pub decreases-same_parts : goal.decreases-same_parts
decreases-same_parts l = 5 * size_parts (plain-Parts l.a.now) + 4

abbrev pub decreases-same_trees : goal.decreases-same_trees
decreases-same_trees l = 5 * size_parts (plain-Parts l.a.now) + 3

abbrev pub decreases-same_lists : goal.decreases-same_lists
decreases-same_lists l = 5 * size_parts (plain-Parts l.a.now) + 3

abbrev pub decreases-same_optional : goal.decreases-same_optional
decreases-same_optional l = 5 * size_optional (optional_of (option_map (λ e. plain-Expr e.now) l.a)) + 1

abbrev pub decreases-same_optional_block : goal.decreases-same_optional_block
decreases-same_optional_block l = 5 * size_block (option_map (λ b. plain-Block b.now) l.a) + 1

abbrev pub decreases-same_expressions : goal.decreases-same_expressions
decreases-same_expressions l = 5 * size_all (expressions_of (map plain-Expr l.a.now)) + 1

abbrev pub decreases-same_field : goal.decreases-same_field
decreases-same_field l = 5 * size_field l.a.now + 1

abbrev pub decreases-same_fields : goal.decreases-same_fields
decreases-same_fields l = 5 * size_fields (field_expressions_of (map plain-FieldExpr l.a.now)) + 2

abbrev pub decreases-same_arm : goal.decreases-same_arm
decreases-same_arm l = 5 * size_arm l.a.now + 1

abbrev pub decreases-same_arms : goal.decreases-same_arms
decreases-same_arms l = 5 * size_arms (arms_of (map plain-Arm l.a.now)) + 2

abbrev pub decreases-same_block : goal.decreases-same_block
decreases-same_block l = 5 * size_body (plain-Block l.a.now)

abbrev pub decreases-same_statement : goal.decreases-same_statement
decreases-same_statement l = 5 * size_statement (plain-Stmt l.a.now) + 1

abbrev pub decreases-same_statements : goal.decreases-same_statements
decreases-same_statements l = 5 * size_statements (statements_of (map plain-Stmt l.a.now)) + 2
