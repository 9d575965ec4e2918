use Rattle.std.proofs.Common.{rules, ◌≡◌, ◌↔◌, ◌++◌, ◌<◌, ℕ, [], ◌∷◌, length, OnOk, IfOk, map, slice_get, slice_set, slice_index_or, ◌+◌, ◌-◌, ◌*◌, ◌≤◌, ◌/◌, ◌%◌, Bool, true, false, nat_eq, nat_lt, List, bit_and, bit_or, Fits, w8, w32, w64, Bor, MutBor}
use Rattle.rx_typed.specs.Regions.{region-Ty, regions_of, region_fields, region_variants, held_regions, lifetimes_in, lifetimes_among}
use Rattle.rx_typed_declarations.specs.WellFormed.{WellFormed}
use Rattle.rx_typed_declarations.proofs.Filling.{Fills}
use Rattle.rx_region_outlives.specs.Implied as spec
use Rattle.rx_region_outlives.proofs.implied.add_by_variants.Goals as goal
use Rattle.std.proofs.Common.{◌∙◌, ap}
use Rattle.rx_core.specs.declared.types.Ty.{Ty}
use Rattle.rx_region_outlives.proofs.Steps.{variants_more}

pub loop-variant-preserved : goal.loop-variant-preserved
loop-variant-preserved c =
    variants_more (spec.pairs_of c.args.table.now) c.args.variants.now c.loop-variant.variant-index c.variant-item.result
    c.loop-variant.pairs c.add_implied_among.new.pairs c.loop-variant-test.true c.variant-item.is
    (c.in_ok-add_implied_among.ensures ∙ ap (λ (ts : List Ty). c.loop-variant.pairs ++ spec.implied_among (spec.pairs_of c.args.table.now) (regions_of (map region-Ty ts))) c.as_slice.ensures)
    ∙ c.loop-variant.invariant
