use Rattle.std.proofs.Common.{rules, ◌≡◌, ◌↔◌, ◌++◌, ◌<◌, ℕ, [], ◌∷◌, length, OnOk, IfOk, map, slice_get, slice_set, slice_index_or, ◌+◌, ◌-◌, ◌*◌, ◌≤◌, ◌/◌, ◌%◌, Bool, true, false, nat_eq, nat_lt, List, bit_and, bit_or, Fits, w8, w32, w64, Bor, MutBor}
use Rattle.rx_typed.specs.Regions.{region-Ty, regions_of, region_fields, region_variants, held_regions, lifetimes_in, lifetimes_among}
use Rattle.rx_typed_declarations.specs.WellFormed.{WellFormed}
use Rattle.rx_typed_declarations.proofs.Filling.{Fills}
use Rattle.rx_region_outlives.specs.Implied as spec
use Rattle.rx_region_outlives.proofs.implied.fill.Goals as goal
use Rattle.std.proofs.Common.{subst}
use Rattle.rx_core.specs.declared.types.Bound.{Bound}
use Rattle.rx_region_outlives.proofs.TableLemmas.{fills_end, fills_next}

pub loop-place-preserved : goal.loop-place-preserved
loop-place-preserved c = λ new h. c.loop-place.invariant new
    (fills_next (spec.FromHeld c.args.items.now) c.loop-place.table.items c.put.new.table.items new c.args.order.now c.loop-place.place
    c.in_ok-pairs.pairs c.loop-place-test.true
    (subst (λ (T : List (List Bound)). spec.FromHeld c.args.items.now T (slice_index_or c.args.order.now c.loop-place.place 0) c.in_ok-pairs.pairs) c.as_slice.ensures.value c.in_ok-pairs.ensures)
    c.put.ensures h)

pub returns : goal.returns
returns c = c.loop-place.invariant c.loop-place.table.items
    (fills_end (spec.FromHeld c.args.items.now) c.loop-place.table.items c.args.order.now c.loop-place.place c.loop-place-test.false)
