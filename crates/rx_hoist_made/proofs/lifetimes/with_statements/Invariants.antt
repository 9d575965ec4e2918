use Rattle.std.proofs.Common.{◌≡◌, map, drop}
use Rattle.rx_tree.specs.PlainOf.{plain-Stmt}
use Rattle.rx_tree.specs.Nodes.{within_statements}
use Rattle.rx_hoist_extraction.specs.Run.{as_statements}
use Rattle.rx_hoist_extraction.specs.NewFunction.{lifetimes_at_all}
use Rattle.rx_hoist_made.specs.Noting.{with_all}
use Rattle.rx_hoist_made.proofs.lifetimes.with_statements.Given as goal

abbrev pub invariant-loop-stmt : goal.invariant-loop-stmt
invariant-loop-stmt l =
    with_all l.all (lifetimes_at_all (within_statements (as_statements (map plain-Stmt (drop l.stmt-index l.stmts)))))
    ≡ with_all l.fn.found (lifetimes_at_all (within_statements (as_statements (map plain-Stmt l.stmts))))
