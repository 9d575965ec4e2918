use Rattle.std.proofs.Common.{◌≡◌, ◌++◌, map, drop}
use Rattle.rx_tree.specs.PlainOf.{plain-Stmt}
use Rattle.rx_hoist_plan.specs.PlainPlan.{plain-Variable}
use Rattle.rx_hoist_extraction.specs.Call.{assigned}
use Rattle.rx_hoist_items.proofs.arms.assigned.Given as goal

abbrev pub invariant-loop-out : goal.invariant-loop-out
invariant-loop-out l =
    map plain-Stmt l.all ++ assigned l.span (map plain-Variable (drop l.out-index l.outs)) l.left ≡ assigned l.span (map plain-Variable l.outs) l.names
