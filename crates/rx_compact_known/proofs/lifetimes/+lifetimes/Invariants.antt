use Rattle.std.proofs.Common.{◌≡◌, ◌++◌, map, drop}
use Rattle.rx_typed.specs.Regions.{region-Ty, regions_of, lifetimes_among}
use Rattle.rx_compact_known.proofs.lifetimes.+lifetimes.Given as goal

abbrev pub invariant-add_lifetimes_among-loop-ty : goal.invariant-add_lifetimes_among-loop-ty
invariant-add_lifetimes_among-loop-ty l = l.lifetimes ++ lifetimes_among (regions_of (map region-Ty (drop l.ty-index l.types)))
    ≡ l.fn.lifetimes ++ lifetimes_among (regions_of (map region-Ty l.fn.types))
