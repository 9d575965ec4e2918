use Rattle.std.proofs.Common.{◌≡◌, map, drop}
use Rattle.rx_tree.specs.PlainOf.{plain-Param}
use Rattle.rx_typed.specs.Naming.{of_parameters}
use Rattle.rx_typeck_typed.specs.Demands as demands
use Rattle.rx_typeck_demand_parts.specs.Walks.{behind}
use Rattle.rx_typeck_demands.proofs.function.parameters.Given as goal

abbrev pub invariant-loop-param : goal.invariant-loop-param
invariant-loop-param l =
    behind (of_parameters (map plain-Param (drop l.param-index l.params))) demands.of_parameters l.walk
    ≡ behind (of_parameters (map plain-Param l.fn.params)) demands.of_parameters l.fn.walk
