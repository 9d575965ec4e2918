-- Those that are passed stay.
use Rattle.std.proofs.Common.{◌≡◌, drop}
use Rattle.rx_engine_alike.specs.PlainSights.{plain-Renaming}
use Rattle.rx_engine_extracted.specs.Entering.{specials_stay}
use Rattle.rx_engine_extracted.proofs.entering.specials_stay.Given as goal

abbrev pub invariant-loop-seen : goal.invariant-loop-seen
invariant-loop-seen l = specials_stay (plain-Renaming (drop l.seen-index l.outer)) (plain-Renaming l.inner) ≡ specials_stay (plain-Renaming l.outer) (plain-Renaming l.inner)
