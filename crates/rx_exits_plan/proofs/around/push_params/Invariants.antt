use Rattle.std.proofs.Common.{◌≡◌, ◌++◌, map, drop}
use Rattle.rx_typed.specs.PlainTree.{plain-Param}
use Rattle.rx_exits_plan.specs.Bound.{variables_of_params}
use Rattle.rx_exits_plan.proofs.around.push_params.Given as goal

abbrev pub invariant-loop-param : goal.invariant-loop-param
invariant-loop-param l = l.variables ++ variables_of_params (map plain-Param (drop l.param-index l.params)) ≡ l.fn.variables ++ variables_of_params (map plain-Param l.fn.params)
