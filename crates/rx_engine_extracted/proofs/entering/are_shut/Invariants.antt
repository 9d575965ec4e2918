-- Those that are passed are shut.
use Rattle.std.proofs.Common.{◌≡◌, drop}
use Rattle.rx_engine_alike.specs.PlainSights.{plain-Renaming}
use Rattle.rx_engine_extracted.specs.Entering.{are_shut}
use Rattle.rx_engine_extracted.proofs.entering.are_shut.Given as goal

abbrev pub invariant-loop-variable : goal.invariant-loop-variable
invariant-loop-variable l = are_shut (plain-Renaming l.renaming) (drop l.variable-index l.variables) ≡ are_shut (plain-Renaming l.renaming) l.variables
