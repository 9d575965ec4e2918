use Rattle.std.proofs.Common.{◌≡◌, drop}
use Rattle.rx_machine_values.specs.PlainMemory.{plain-Memory}
use Rattle.rx_machine_values.specs.PlainValues.{plain-Part}
use Rattle.rx_machine_values.specs.Reaching.{reached}
use Rattle.rx_machine_values.proofs.memory.Memory.reached.Given as goal

abbrev pub invariant-loop-i : goal.invariant-loop-i
invariant-loop-i l = reached (plain-Memory l.self) (drop l.i l.steps) (plain-Part l.at) ≡ reached (plain-Memory l.fn.self) l.fn.steps (plain-Part l.fn.from)
