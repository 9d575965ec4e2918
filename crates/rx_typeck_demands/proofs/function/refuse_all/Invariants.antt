use Rattle.std.proofs.Common.{◌≡◌, drop}
use Rattle.rx_typeck_typed.specs.Demands.{of_never_given}
use Rattle.rx_typeck_demand_parts.specs.Walks.{asked}
use Rattle.rx_typeck_demands.proofs.function.refuse_all.Given as goal

abbrev pub invariant-loop-node : goal.invariant-loop-node
invariant-loop-node l = asked (of_never_given (drop l.node-index l.nodes)) l.walk ≡ asked (of_never_given l.fn.nodes) l.fn.walk
