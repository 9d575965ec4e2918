use Rattle.std.proofs.Common.{◌≡◌, ◌↔◌, ◌++◌, ◌<◌, [], ◌∷◌, length, map, slice_get, slice_set, slice_index_or, ℕ, ◌+◌, ◌-◌, ◌*◌, ◌≤◌, drop, Bool, true, false, List}
use Rattle.rx_typed.specs.Regions.{region-Ty, regions_of, region_fields, region_variants, held_regions, lifetimes_in, lifetimes_among}
use Rattle.rx_typed_declarations.proofs.Filling.{Fills}
use Rattle.rx_region_outlives.specs.Implied as spec
use Rattle.rx_region_outlives.proofs.implied.distinct.Given as goal

abbrev pub invariant-loop-pair : goal.invariant-loop-pair
invariant-loop-pair l = spec.SamePairs (l.kept ++ drop l.pair-index l.pairs) l.fn.pairs × spec.Kept l.marks.items l.kept
