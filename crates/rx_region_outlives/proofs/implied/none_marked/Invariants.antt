use Rattle.std.proofs.Common.{◌≡◌, ◌↔◌, ◌++◌, ◌<◌, [], ◌∷◌, length, map, slice_get, slice_set, slice_index_or, ℕ, ◌+◌, ◌-◌, ◌*◌, ◌≤◌, drop, Bool, true, false, List}
use Rattle.rx_typed.specs.Regions.{region-Ty, regions_of, region_fields, region_variants, held_regions, lifetimes_in, lifetimes_among}
use Rattle.rx_typed_declarations.proofs.Filling.{Fills}
use Rattle.rx_region_outlives.specs.Implied as spec
use Rattle.rx_region_outlives.proofs.implied.none_marked.Given as goal

abbrev pub invariant-loop-lifetime : goal.invariant-loop-lifetime
invariant-loop-lifetime l = spec.Unmarked l.marks.items
