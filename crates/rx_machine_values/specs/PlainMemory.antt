-- The plain memory of the code's.
use Rattle.std.specs.Prelude.{List, map}
use Rattle.rx_meaning.specs.Values as plain
use Rattle.rx_machine_values.specs.declared.memory.Memory.{Memory}
use Rattle.rx_machine_values.specs.PlainValues.{plain-Value}

abbrev pub plain-Memory : Memory → List plain.Value
plain-Memory m = map plain-Value m.slots.items
