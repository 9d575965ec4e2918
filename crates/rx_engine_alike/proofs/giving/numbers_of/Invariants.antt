-- Those so far, in front of those of the rest.
use Rattle.std.proofs.Common.{◌≡◌, drop}
use Rattle.rx_engine_alike.specs.Giving.{numbers_of}
use Rattle.rx_engine_alike.specs.PlainSights.{plain-Renaming}
use Rattle.rx_engine_alike.proofs.NumberLemmas.{in_front}
use Rattle.rx_engine_alike.proofs.giving.numbers_of.Given as goal

abbrev pub invariant-loop-variable : goal.invariant-loop-variable
invariant-loop-variable l = in_front l.numbers.items (numbers_of (plain-Renaming l.renaming) (drop l.variable-index l.variables)) ≡ numbers_of (plain-Renaming l.fn.renaming) l.fn.variables
