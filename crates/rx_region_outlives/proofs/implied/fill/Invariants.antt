use Rattle.std.proofs.Common.{◌≡◌, ◌↔◌, ◌++◌, ◌<◌, [], ◌∷◌, length, map, slice_get, slice_set, slice_index_or, ℕ, ◌+◌, ◌-◌, ◌*◌, ◌≤◌, drop, Bool, true, false, List}
use Rattle.rx_typed.specs.Regions.{region-Ty, regions_of, region_fields, region_variants, held_regions, lifetimes_in, lifetimes_among}
use Rattle.rx_typed_declarations.proofs.Filling.{Fills}
use Rattle.rx_core.specs.declared.types.Bound.{Bound}
use Rattle.rx_region_outlives.specs.Implied as spec
use Rattle.rx_region_outlives.proofs.implied.fill.Given as goal

abbrev pub invariant-loop-place : goal.invariant-loop-place
invariant-loop-place l = (new : List (List Bound)) → Fills (spec.FromHeld l.items) l.table.items (drop l.place l.order) new
    → Fills (spec.FromHeld l.fn.items) l.fn.table.items l.fn.order new
