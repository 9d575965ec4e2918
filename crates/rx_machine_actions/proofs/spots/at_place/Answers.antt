use Rattle.std.proofs.Common.{option_map, ap, sym, ◌∙◌}
use Rattle.rx_machine_values.specs.PlainValues.{plain-Value}
use Rattle.rx_machine_values.specs.PlainMemory.{plain-Memory}
use Rattle.rx_machine_actions.proofs.SpotLemmas.{nothing_there}
use Rattle.rx_machine_actions.proofs.spots.at_place.Goals as goal

pub returns-in-None : goal.returns-in-None
returns-in-None c = nothing_there (plain-Memory c.args.memory.now) c.args.slot c.args.steps.now (sym c.slot.ensures ∙ ap (option_map (λ v. plain-Value v.now)) c.in-None.is)
