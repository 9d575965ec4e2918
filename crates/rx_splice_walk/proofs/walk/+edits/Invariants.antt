-- What is written, and what is left of the list behind it, are the whole.
use Rattle.std.proofs.Common.{◌≡◌, ◌++◌, map, drop}
use Rattle.rx_tree.specs.PlainOf.{plain-Stmt, statements_of}
use Rattle.rx_hoist_extraction.specs.Names.{behind_all}
use Rattle.rx_splice_laws.specs.Edits.{written}
use Rattle.rx_splice_walk.proofs.Written.{of_expressions, of_fields, of_arms, of_statements}
use Rattle.rx_splice_walk.proofs.walk.+edits.Given as goal

abbrev pub invariant-listed-loop-expr : goal.invariant-listed-loop-expr
invariant-listed-loop-expr g l =
    l.out ++ map written (of_expressions (g.P.Places.edits l.places) l.own l.around (drop l.expr-index l.exprs))
    ≡ l.fn.out ++ map written (of_expressions (g.P.Places.edits l.places) l.own l.around l.exprs)

abbrev pub invariant-arguments-loop-expr : goal.invariant-arguments-loop-expr
invariant-arguments-loop-expr g l =
    l.out ++ map written (of_expressions (g.P.Places.edits l.places) l.own l.around (drop l.expr-index l.expr-items))
    ≡ l.fn.out ++ map written (of_expressions (g.P.Places.edits l.places) l.own l.around l.expr-items)

abbrev pub invariant-fields-loop-field : goal.invariant-fields-loop-field
invariant-fields-loop-field g l =
    l.out ++ map written (of_fields (g.P.Places.edits l.places) l.own l.around (drop l.field-index l.fields))
    ≡ l.fn.out ++ map written (of_fields (g.P.Places.edits l.places) l.own l.around l.fields)

abbrev pub invariant-arms-loop-arm : goal.invariant-arms-loop-arm
invariant-arms-loop-arm g l =
    l.out ++ map written (of_arms (g.P.Places.edits l.places) l.own l.around (drop l.arm-index l.arms))
    ≡ l.fn.out ++ map written (of_arms (g.P.Places.edits l.places) l.own l.around l.arms)

abbrev pub invariant-statements-loop-stmt : goal.invariant-statements-loop-stmt
invariant-statements-loop-stmt g l = record {
  names : behind_all l.own (statements_of (map plain-Stmt (drop l.stmt-index l.stmts))) ≡ behind_all l.fn.own (statements_of (map plain-Stmt l.stmts));
  made : l.out ++ map written (of_statements (g.P.Places.edits l.places) l.around l.own (drop l.stmt-index l.stmts))
      ≡ l.fn.out ++ map written (of_statements (g.P.Places.edits l.places) l.around l.fn.own l.stmts);
}
