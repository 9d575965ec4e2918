use Rattle.std.proofs.Common.{◌≡◌, ◌++◌, map, drop}
use Rattle.rx_lower_walks.specs.PlainFlow.{plain-Item}
use Rattle.rx_lower_order.specs.Items.{declaring_items}
use Rattle.rx_lower_order.proofs.variables.push_all_declared.Given as goal

abbrev pub invariant-loop-variable : goal.invariant-loop-variable
invariant-loop-variable l = map plain-Item l.items ++ declaring_items l.node (drop l.variable-index l.variables) l.end ≡ map plain-Item l.fn.items ++ declaring_items l.node l.fn.variables l.end
