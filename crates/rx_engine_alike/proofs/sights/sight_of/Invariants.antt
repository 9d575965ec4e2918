-- It is found in what is left of the list as in all of it.
use Rattle.std.proofs.Common.{◌≡◌, drop}
use Rattle.rx_engine_simulation.specs.Sights.{sight_of}
use Rattle.rx_engine_alike.specs.PlainSights.{plain-Renaming}
use Rattle.rx_engine_alike.proofs.sights.sight_of.Given as goal

abbrev pub invariant-loop-seen : goal.invariant-loop-seen
invariant-loop-seen l = sight_of (plain-Renaming (drop l.seen-index l.renaming)) l.variable ≡ sight_of (plain-Renaming l.renaming) l.variable
