use Rattle.std.proofs.Common.{◌≡◌, ◌++◌, map, drop}
use Rattle.rx_typed.specs.Regions.{region-Ty, regions_of}
use Rattle.rx_region_outlives.specs.Implied.{implied_among, pairs_of}
use Rattle.rx_compact_known.proofs.said.add_implied_among.Given as goal

abbrev pub invariant-loop-ty : goal.invariant-loop-ty
invariant-loop-ty l = l.pairs ++ implied_among (pairs_of l.implied.items) (regions_of (map region-Ty (drop l.ty-index l.types)))
    ≡ l.fn.pairs ++ implied_among (pairs_of l.fn.implied.items) (regions_of (map region-Ty l.fn.types))
