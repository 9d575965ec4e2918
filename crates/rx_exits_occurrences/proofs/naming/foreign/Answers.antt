use Rattle.std.proofs.Common.{false, map, ◌∙◌}
use Rattle.rx_exits_plan.specs.Occurrences as occurrences
use Rattle.rx_exits_occurrences.specs.PlainOccurrence.{plain-Occurrence}
use Rattle.rx_exits_occurrences.proofs.NamingLemmas.{chosen_as}
use Rattle.rx_exits_occurrences.proofs.naming.foreign.Goals as goal

pub returns : goal.returns
returns c =
    chosen_as c.chosen.result false c.as_slice.result.now (occurrences.declared_among (map plain-Occurrence c.args.found.now)) c.args.all.now (c.as_slice.ensures ∙ c.in_ok-declared.ensures) c.chosen.ensures
