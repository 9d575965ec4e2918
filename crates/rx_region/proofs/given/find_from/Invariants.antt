use Rattle.std.proofs.Common.{◌≡◌, ◌+◌, map, drop}
use Rattle.rx_lower_walks.specs.PlainFlow.{plain-Temporary}
use Rattle.rx_region.specs.Steps.{place_among}
use Rattle.rx_region.proofs.given.find_from.Given as goal

abbrev pub invariant-loop-i : goal.invariant-loop-i
invariant-loop-i l = l.i + place_among (map plain-Temporary (drop l.i l.temporaries)) (plain-Temporary l.temporary) ≡ place_among (map plain-Temporary l.fn.temporaries) (plain-Temporary l.fn.temporary)
