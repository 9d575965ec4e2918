use Rattle.std.proofs.Common.{◌≡◌, map, drop}
use Rattle.rx_tree.specs.PlainOf.{plain-Stmt}
use Rattle.rx_hoist_extraction.specs.Names as names
use Rattle.rx_hoist_made.proofs.bound.is_declared.Given as goal

abbrev pub invariant-loop-stmt : goal.invariant-loop-stmt
invariant-loop-stmt l =
    names.is_among l.name (names.declared_by (map plain-Stmt (drop l.stmt-index l.stmts))) ≡ names.is_among l.name (names.declared_by (map plain-Stmt l.stmts))
