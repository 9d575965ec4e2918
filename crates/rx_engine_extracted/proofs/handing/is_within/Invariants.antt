-- Those that are passed are seen so.
use Rattle.std.proofs.Common.{◌≡◌, drop}
use Rattle.rx_engine_alike.specs.PlainSights.{plain-Renaming}
use Rattle.rx_engine_extracted.specs.Handing.{is_within}
use Rattle.rx_engine_extracted.proofs.handing.is_within.Given as goal

abbrev pub invariant-loop-seen : goal.invariant-loop-seen
invariant-loop-seen l = is_within (plain-Renaming (drop l.seen-index l.renaming)) (plain-Renaming l.other) ≡ is_within (plain-Renaming l.renaming) (plain-Renaming l.other)
