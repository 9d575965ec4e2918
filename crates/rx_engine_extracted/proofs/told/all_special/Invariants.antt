-- Those that are passed are elsewhere.
use Rattle.std.proofs.Common.{◌≡◌, drop}
use Rattle.rx_engine_alike.specs.PlainSights.{plain-Renaming}
use Rattle.rx_engine_extracted.specs.Told.{all_special}
use Rattle.rx_engine_extracted.proofs.told.all_special.Given as goal

abbrev pub invariant-loop-variable : goal.invariant-loop-variable
invariant-loop-variable l = all_special (plain-Renaming l.renaming) (drop l.variable-index l.variables) ≡ all_special (plain-Renaming l.renaming) l.variables
