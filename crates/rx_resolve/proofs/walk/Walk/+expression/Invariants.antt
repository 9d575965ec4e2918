use Rattle.std.proofs.Common.{◌≡◌, [], map, drop, option_map}
use Rattle.rx_tree.specs.PlainOf.{plain-Expr, plain-FieldExpr, plain-Arm, plain-Stmt, expressions_of, optional_list_of, field_expressions_of, arms_of, statements_of}
use Rattle.rx_resolve_names.specs.Names.{in_expressions, in_arguments, in_fields, in_arms, in_statements}
use Rattle.rx_resolve.specs.Walks.{inside, with_tables, with_scope, around_from}
use Rattle.rx_resolve.proofs.walk.Walk.+expression.Given as goal

abbrev pub invariant-expressions-loop-expr : goal.invariant-expressions-loop-expr
invariant-expressions-loop-expr l =
    (in_expressions (inside l.fn.self) l.fn.self.scope (around_from [] l.fn.self.around) l.fn.self.path l.child (expressions_of (map plain-Expr (drop l.expr-index l.exprs))) l.self.tables
    ≡ in_expressions (inside l.fn.self) l.fn.self.scope (around_from [] l.fn.self.around) l.fn.self.path 0 (expressions_of (map plain-Expr l.fn.exprs)) l.fn.self.tables)
    × (l.self ≡ with_tables l.self.tables l.fn.self)

abbrev pub invariant-fields-loop-field : goal.invariant-fields-loop-field
invariant-fields-loop-field l =
    (in_fields (inside l.fn.self) l.fn.self.scope (around_from [] l.fn.self.around) l.fn.self.path l.child (field_expressions_of (map plain-FieldExpr (drop l.field-index l.fields))) l.self.tables
    ≡ in_fields (inside l.fn.self) l.fn.self.scope (around_from [] l.fn.self.around) l.fn.self.path 0 (field_expressions_of (map plain-FieldExpr l.fn.fields)) l.fn.self.tables)
    × (l.self ≡ with_tables l.self.tables l.fn.self)

abbrev pub invariant-arms-loop-arm : goal.invariant-arms-loop-arm
invariant-arms-loop-arm l =
    (in_arms (inside l.fn.self) l.fn.self.scope (around_from [] l.fn.self.around) l.fn.self.path l.child (arms_of (map plain-Arm (drop l.arm-index l.arms))) l.self.tables
    ≡ in_arms (inside l.fn.self) l.fn.self.scope (around_from [] l.fn.self.around) l.fn.self.path 1 (arms_of (map plain-Arm l.fn.arms)) l.fn.self.tables)
    × (l.self ≡ with_tables l.self.tables l.fn.self)

abbrev pub invariant-statements-loop-stmt : goal.invariant-statements-loop-stmt
invariant-statements-loop-stmt l =
    (in_statements (inside l.fn.self) l.self.scope (around_from [] l.fn.self.around) l.fn.self.path l.child (statements_of (map plain-Stmt (drop l.stmt-index l.stmts))) l.self.tables
    ≡ in_statements (inside l.fn.self) l.fn.self.scope (around_from [] l.fn.self.around) l.fn.self.path 0 (statements_of (map plain-Stmt l.fn.stmts)) l.fn.self.tables)
    × (l.self ≡ with_scope l.self.scope (with_tables l.self.tables l.fn.self))

abbrev pub invariant-arguments-loop-expr : goal.invariant-arguments-loop-expr
invariant-arguments-loop-expr l =
    (in_expressions (inside l.fn.self) l.fn.self.scope (around_from [] l.fn.self.around) l.fn.self.path l.child (expressions_of (map plain-Expr (drop l.expr-index l.expr-items))) l.self.tables
    ≡ in_arguments (inside l.fn.self) l.fn.self.scope (around_from [] l.fn.self.around) l.fn.self.path (optional_list_of (option_map (map plain-Expr) l.fn.exprs)) l.fn.self.tables)
    × (l.self ≡ with_tables l.self.tables l.fn.self)
