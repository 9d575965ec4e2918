-- Those that are passed stand for others.
use Rattle.std.proofs.Common.{◌≡◌, drop}
use Rattle.rx_engine_alike.specs.Variables.{is_new}
use Rattle.rx_engine_alike.specs.PlainSights.{plain-Renaming}
use Rattle.rx_engine_alike.proofs.sights.is_new.Given as goal

abbrev pub invariant-loop-seen : goal.invariant-loop-seen
invariant-loop-seen l = is_new (plain-Renaming (drop l.seen-index l.renaming)) l.to ≡ is_new (plain-Renaming l.renaming) l.to
