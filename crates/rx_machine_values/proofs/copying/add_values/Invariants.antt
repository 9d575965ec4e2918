use Rattle.std.proofs.Common.{◌≡◌, ◌++◌, drop}
use Rattle.rx_machine_values.specs.PlainValues.{plain-Nodes, rows_of}
use Rattle.rx_machine_values.proofs.copying.add_values.Given as goal

abbrev pub invariant-loop-value : goal.invariant-loop-value
invariant-loop-value l = plain-Nodes l.row ++ rows_of (drop l.value-index l.values) ≡ plain-Nodes l.fn.row ++ rows_of l.fn.values
