-- Those that are passed are as asked.
use Rattle.std.proofs.Common.{◌≡◌, drop}
use Rattle.rx_engine_alike.specs.PlainSights.{plain-Renaming}
use Rattle.rx_engine_extracted.specs.Told.{specials_among}
use Rattle.rx_engine_extracted.proofs.told.specials_among.Given as goal

abbrev pub invariant-loop-seen : goal.invariant-loop-seen
invariant-loop-seen l = specials_among (plain-Renaming (drop l.seen-index l.renaming)) l.variables ≡ specials_among (plain-Renaming l.renaming) l.variables
