use Rattle.std.proofs.Common.{◌≡◌, ◌++◌, map, drop}
use Rattle.rx_tree.specs.PlainOf.{plain-Stmt}
use Rattle.rx_hoist_plan.specs.PlainPlan.{plain-Variable}
use Rattle.rx_hoist_extraction.specs.Names.{declared_by}
use Rattle.rx_hoist_extraction.specs.Values.{variables_held}
use Rattle.rx_hoist_made.specs.Rows.{nth_name}
use Rattle.rx_hoist_items.specs.Calling.{all_put_back}
use Rattle.rx_hoist_items.proofs.receiving.with_all_put.Given as goal

abbrev pub invariant-loop-out : goal.invariant-loop-out
invariant-loop-out l =
    map plain-Stmt l.all ++ all_put_back l.span (declared_by (map plain-Stmt l.run)) (nth_name l.row) 0 (variables_held (map plain-Variable (drop l.out-index l.outs)))
    ≡ map plain-Stmt l.fn.stmts ++ all_put_back l.span (declared_by (map plain-Stmt l.run)) (nth_name l.fn.row) 0 (variables_held (map plain-Variable l.outs))
