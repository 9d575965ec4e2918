use Rattle.std.proofs.Common.{◌≡◌, map, take}
use Rattle.rx_modes.specs.Told.{gives_away}
use Rattle.rx_modes.proofs.choosing.given_away.Given as goal

abbrev pub invariant-loop-one : goal.invariant-loop-one
invariant-loop-one l = l.all.items ≡ map gives_away (take l.one-index l.uses)
