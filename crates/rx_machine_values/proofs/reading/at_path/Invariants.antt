use Rattle.std.proofs.Common.{◌≡◌, drop}
use Rattle.rx_meaning.specs.Values as plain
use Rattle.rx_machine_values.specs.PlainValues.{plain-Part}
use Rattle.rx_machine_values.proofs.reading.at_path.Given as goal

abbrev pub invariant-loop-i : goal.invariant-loop-i
invariant-loop-i l = plain.get (drop l.i l.path) (plain-Part l.at) ≡ plain.get l.fn.path (plain-Part l.fn.from)
