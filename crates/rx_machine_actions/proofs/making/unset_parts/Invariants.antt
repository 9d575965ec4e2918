use Rattle.std.proofs.Common.{◌≡◌, map}
use Rattle.rx_machine_values.specs.PlainValues.{plain-Value}
use Rattle.rx_machine_actions.specs.PlainActs.{unsets}
use Rattle.rx_machine_actions.proofs.making.unset_parts.Given as goal

abbrev pub invariant-loop-turn : goal.invariant-loop-turn
invariant-loop-turn l = map plain-Value l.parts ≡ unsets l._turn
