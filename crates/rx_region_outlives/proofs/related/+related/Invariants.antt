use Rattle.std.proofs.Common.{◌≡◌, ◌++◌, drop, map, slice_get}
use Rattle.rx_typed.specs.Regions.{region-Ty, regions_of}
use Rattle.rx_typed_declarations.specs.Variance.{variances_recorded}
use Rattle.rx_region_outlives.specs.Related as spec
use Rattle.rx_region_outlives.proofs.related.+related.Given as goal

abbrev pub invariant-add_all_related-loop-ty : goal.invariant-add_all_related-loop-ty
invariant-add_all_related-loop-ty l =
    l.pairs ++ spec.all_related (λ i. variances_recorded (slice_get l.items i)) l.polarity (regions_of (map region-Ty (drop l.ty-index l.held))) (regions_of (map region-Ty l.wanted))
    ≡ l.fn.pairs ++ spec.all_related (λ i. variances_recorded (slice_get l.fn.items i)) l.fn.polarity (regions_of (map region-Ty l.fn.held)) (regions_of (map region-Ty l.fn.wanted))
