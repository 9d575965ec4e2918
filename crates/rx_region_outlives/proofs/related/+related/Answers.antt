use Rattle.std.proofs.Common.{rules, ◌≡◌, ◌++◌, [], OnOk, drop, map, slice_get, ℕ, ◌+◌, ◌-◌, ◌*◌, ◌<◌, ◌≤◌, length, ◌/◌, ◌%◌, Bool, true, false, nat_eq, nat_lt, List, ◌∷◌, slice_index_or, slice_set, bit_and, bit_or, Fits, w8, w32, w64, Bor, MutBor}
use Rattle.rx_typed.specs.Regions.{region-Ty, regions_of}
use Rattle.rx_typed_declarations.specs.Variance.{variances_recorded}
use Rattle.rx_region_outlives.specs.Related as spec
use Rattle.rx_region_outlives.proofs.related.+related.Goals as goal
use Rattle.std.proofs.Common.{◌∙◌}
use Rattle.rx_region_outlives.proofs.Steps.{all_related_more}

pub add_all_related-loop-ty-preserved : goal.add_all_related-loop-ty-preserved
add_all_related-loop-ty-preserved t c =
    rw (c.others-wanted.ensures)
    (all_related_more (λ i. variances_recorded (slice_get c.args.items.now i)) c.args.polarity c.args.held.now c.loop-ty.wanted.now
    c.loop-ty.ty-index c.ty-item.result c.loop-ty.pairs c.add_first_related.new.pairs c.loop-ty-test.true c.ty-item.is
    c.in_ok-add_first_related.ensures ∙ c.loop-ty.invariant)
