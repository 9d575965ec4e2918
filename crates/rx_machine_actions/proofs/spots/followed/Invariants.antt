use Rattle.std.proofs.Common.{◌≡◌, drop}
use Rattle.rx_meaning.specs.Places as places
use Rattle.rx_machine_values.specs.PlainMemory.{plain-Memory}
use Rattle.rx_machine_actions.specs.PlainActs.{plain-Spot}
use Rattle.rx_machine_actions.proofs.spots.followed.Given as goal

abbrev pub invariant-loop-i : goal.invariant-loop-i
invariant-loop-i l = places.follow (plain-Memory l.memory) (drop l.i l.steps) (plain-Spot l.at) ≡ places.follow (plain-Memory l.fn.memory) l.fn.steps (plain-Spot l.fn.from)
