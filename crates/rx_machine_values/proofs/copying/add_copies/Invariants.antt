use Rattle.std.proofs.Common.{◌≡◌, ◌++◌, drop}
use Rattle.rx_machine_values.specs.PlainValues.{plain-Nodes}
use Rattle.rx_machine_values.proofs.copying.add_copies.Given as goal

abbrev pub invariant-loop-node : goal.invariant-loop-node
invariant-loop-node l = plain-Nodes l.row ++ plain-Nodes (drop l.node-index l.nodes) ≡ plain-Nodes l.fn.row ++ plain-Nodes l.fn.nodes
