use Rattle.std.proofs.Common.{◌≡◌, ◌↔◌, ◌++◌, ◌<◌, [], ◌∷◌, length, map, slice_get, slice_set, slice_index_or, ℕ, ◌+◌, ◌-◌, ◌*◌, ◌≤◌, drop, Bool, true, false, List}
use Rattle.rx_typed.specs.Regions.{region-Ty, regions_of, region_fields, region_variants, held_regions, lifetimes_in, lifetimes_among}
use Rattle.rx_typed_declarations.proofs.Filling.{Fills}
use Rattle.rx_region_outlives.specs.Implied as spec
use Rattle.rx_region_outlives.proofs.implied.+implied.Given as goal

abbrev pub invariant-add_implied_among-loop-ty : goal.invariant-add_implied_among-loop-ty
invariant-add_implied_among-loop-ty l = l.pairs ++ spec.implied_among (spec.pairs_of l.table) (regions_of (map region-Ty (drop l.ty-index l.types)))
    ≡ l.fn.pairs ++ spec.implied_among (spec.pairs_of l.fn.table) (regions_of (map region-Ty l.fn.types))
