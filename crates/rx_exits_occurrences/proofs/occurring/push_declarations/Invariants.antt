use Rattle.std.proofs.Common.{◌≡◌, ◌++◌, map, drop}
use Rattle.rx_exits_plan.specs.Occurrences.{all_declared}
use Rattle.rx_exits_occurrences.specs.PlainOccurrence.{plain-Occurrence}
use Rattle.rx_exits_occurrences.proofs.occurring.push_declarations.Given as goal

abbrev pub invariant-loop-variable : goal.invariant-loop-variable
invariant-loop-variable l = map plain-Occurrence l.found ++ all_declared (drop l.variable-index l.variables) ≡ map plain-Occurrence l.fn.found ++ all_declared l.fn.variables
