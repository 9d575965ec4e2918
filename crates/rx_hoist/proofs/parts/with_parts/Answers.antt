use Rattle.std.proofs.Common.{◌≡◌, ◌++◌, List, Option, map, ap, ◌∙◌}
use Rattle.std.specs.Prelude.{option_map}
use Rattle.rx_tree.specs.declared.tree.Block.{out-Block}
use Rattle.rx_tree.specs.declared.tree.Expr.{Expr}
use Rattle.rx_tree.specs.declared.tree.Stmt.{Stmt}
use Rattle.rx_tree.specs.PlainOf.{plain-Block, plain-Expr, plain-Stmt, optional_of, block_is}
use Rattle.rx_tree.specs.Lists.{statements, tail}
use Rattle.rx_hoist_extraction.specs.Run as runs
use Rattle.rx_hoist_made.specs.PlainParts.{plain-Parts}
use Rattle.rx_hoist_made.proofs.Dropped.{held_ok}
use Rattle.rx_hoist.specs.Runs.{run_of}
use Rattle.rx_hoist.proofs.PlaceLemmas.{parts_put}
use Rattle.rx_hoist.proofs.parts.with_parts.Goals as goal

pub returns : goal.returns
returns c =
    let r = run_of c.args.run.now in
    let b = c.args.block.now in
    let p = plain-Parts c.args.parts in
    block_is (out-Block b).span c.in_ok-tail.stmts c.in_ok-tail.tail
    ∙ parts_put r p (record { statements = map plain-Stmt c.in_ok-tail.stmts; tail = optional_of (option_map plain-Expr c.in_ok-tail.tail) }) b
    (ap (map plain-Stmt) c.in_ok-tail.ensures.1
    ∙ held_ok (λ (it : List Stmt). map plain-Stmt it ≡ runs.in_front r (statements (plain-Block b)) ++ (p.statements ++ runs.behind r (statements (plain-Block b))))
    c.statements_with.result c.in_ok-stmts.stmts c.statements_with.ensures c.in_ok-stmts.ensures.0)
    (held_ok
    (λ (it : Option Expr). optional_of (option_map plain-Expr it) ≡ runs.rest_tail (runs.goes_past r (statements (plain-Block b))) (tail (plain-Block b)) (optional_of (option_map plain-Expr c.in_ok-stmts.tail)))
    c.tail_with.result c.in_ok-tail.tail c.tail_with.ensures c.in_ok-tail.ensures.0
    ∙ ap (λ (o : Option Expr). runs.rest_tail (runs.goes_past r (statements (plain-Block b))) (tail (plain-Block b)) (optional_of (option_map plain-Expr o))) c.in_ok-stmts.ensures.1)
