use Rattle.std.proofs.Common.{◌≡◌, map, take}
use Rattle.rx_tree.specs.PlainOf.{plain-Expr}
use Rattle.rx_hoist_plan.specs.PlainPlan.{plain-Param}
use Rattle.rx_hoist_extraction.specs.Call.{arguments}
use Rattle.rx_hoist_items.proofs.call.arguments.Given as goal

abbrev pub invariant-loop-param : goal.invariant-loop-param
invariant-loop-param l =
    map plain-Expr l.all ≡ arguments l.span (map plain-Param (take l.param-index l.params))
