use Rattle.std.proofs.Common.{◌<◌, length}
use Rattle.rx_machine_values.specs.PlainValues.{plain-Nodes}
use Rattle.rx_machine_values.proofs.RowLemmas.{Searching}
use Rattle.rx_machine_values.proofs.reading.begins.Given as goal

abbrev pub invariant-loop-turn : goal.invariant-loop-turn
invariant-loop-turn l = record { within : l.at < length l.nodes; searching : Searching (plain-Nodes l.nodes) l.number l.turn l.at }
