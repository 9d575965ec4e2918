use Rattle.std.proofs.Common.{◌≡◌, drop}
use Rattle.rx_machine_values.specs.Rows.{all_have}
use Rattle.rx_machine_values.specs.PlainValues.{plain-Nodes}
use Rattle.rx_machine_values.proofs.reading.all_set.Given as goal

abbrev pub invariant-loop-node : goal.invariant-loop-node
invariant-loop-node l = all_have (plain-Nodes (drop l.node-index l.nodes)) ≡ all_have (plain-Nodes l.fn.nodes)
