use Rattle.std.proofs.Common.{◌≡◌, ◌++◌, map, drop}
use Rattle.rx_typed.specs.Regions.{region-Ty}
use Rattle.rx_region.specs.Constraints.{formed}
use Rattle.rx_region.specs.PlainContext.{plain-Given}
use Rattle.rx_region.proofs.given.Given.add_formed.Given as goal

abbrev pub invariant-loop-number : goal.invariant-loop-number
invariant-loop-number l = l.pairs ++ formed (plain-Given l.self) l.number (map region-Ty (drop l.number l.types))
    ≡ l.fn.pairs ++ formed (plain-Given l.fn.self) 0 (map region-Ty l.fn.types)
