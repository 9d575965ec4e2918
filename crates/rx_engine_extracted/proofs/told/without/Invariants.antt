-- What is kept so far, and what is kept of those that are left, is what is kept of all.
use Rattle.std.proofs.Common.{◌≡◌, ◌++◌, drop}
use Rattle.rx_engine_alike.specs.PlainSights.{plain-Renaming}
use Rattle.rx_engine_extracted.specs.Told.{without}
use Rattle.rx_engine_extracted.proofs.told.without.Given as goal

abbrev pub invariant-loop-seen : goal.invariant-loop-seen
invariant-loop-seen l = plain-Renaming l.kept.items ++ without l.variables (plain-Renaming (drop l.seen-index l.renaming)) ≡ without l.variables (plain-Renaming l.renaming)
