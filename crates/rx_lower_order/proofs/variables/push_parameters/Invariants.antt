use Rattle.std.proofs.Common.{◌≡◌, ◌++◌, map, drop}
use Rattle.rx_typed.specs.PlainTree.{plain-Param}
use Rattle.rx_lower_walks.specs.PlainFlow.{plain-Item}
use Rattle.rx_lower_order.specs.Items.{parameter_items}
use Rattle.rx_lower_order.proofs.variables.push_parameters.Given as goal

abbrev pub invariant-loop-parameter : goal.invariant-loop-parameter
invariant-loop-parameter l = map plain-Item l.items ++ parameter_items (map plain-Param (drop l.parameter-index l.parameters)) l.end ≡ map plain-Item l.fn.items ++ parameter_items (map plain-Param l.fn.parameters) l.end
