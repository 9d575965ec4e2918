-- What is made so far is what became of the parts so far.
use Rattle.std.proofs.Common.{◌≡◌, map, take}
use Rattle.rx_tree.specs.PlainOf.{plain-Expr, plain-FieldExpr, plain-Arm, plain-Stmt, statements_of}
use Rattle.rx_hoist_extraction.specs.Names.{behind_all}
use Rattle.rx_hoist_extraction.specs.Changed.{changed}
use Rattle.rx_hoist_changes.proofs.ListLemmas.{field_changed, arm_changed, each_changed}
use Rattle.rx_hoist_changes.proofs.walk.+changed.Given as goal

abbrev pub invariant-listed-loop-expr : goal.invariant-listed-loop-expr
invariant-listed-loop-expr g l =
    map plain-Expr l.all ≡ map (changed (g.P.Places.changes l.places) l.own l.around) (map plain-Expr (take l.expr-index l.exprs))

abbrev pub invariant-arguments-loop-expr : goal.invariant-arguments-loop-expr
invariant-arguments-loop-expr g l =
    map plain-Expr l.all ≡ map (changed (g.P.Places.changes l.places) l.own l.around) (map plain-Expr (take l.expr-index l.expr-items))

abbrev pub invariant-fields-loop-field : goal.invariant-fields-loop-field
invariant-fields-loop-field g l =
    map plain-FieldExpr l.all ≡ map (field_changed (g.P.Places.changes l.places) l.own l.around) (map plain-FieldExpr (take l.field-index l.fields))

abbrev pub invariant-arms-loop-arm : goal.invariant-arms-loop-arm
invariant-arms-loop-arm g l =
    map plain-Arm l.all ≡ map (arm_changed (g.P.Places.changes l.places) l.own l.around) (map plain-Arm (take l.arm-index l.arms))

abbrev pub invariant-statements-loop-stmt : goal.invariant-statements-loop-stmt
invariant-statements-loop-stmt g l = record {
  names : l.own ≡ behind_all l.fn.own (statements_of (map plain-Stmt (take l.stmt-index l.stmts)));
  made : map plain-Stmt l.all ≡ each_changed (g.P.Places.changes l.places) l.fn.own l.around (map plain-Stmt (take l.stmt-index l.stmts));
}
