use Rattle.std.proofs.Common.{◌≡◌, ◌++◌, map, drop}
use Rattle.rx_exits_plan.specs.Occurrences as occurrences
use Rattle.rx_exits_occurrences.specs.PlainOccurrence.{plain-Occurrence}
use Rattle.rx_exits_occurrences.proofs.naming.declared_among.Given as goal

abbrev pub invariant-loop-occurrence : goal.invariant-loop-occurrence
invariant-loop-occurrence l = l.variables ++ occurrences.declared_among (map plain-Occurrence (drop l.occurrence-index l.found)) ≡ occurrences.declared_among (map plain-Occurrence l.fn.found)
