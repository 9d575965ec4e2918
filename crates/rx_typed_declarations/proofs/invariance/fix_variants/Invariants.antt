use Rattle.std.proofs.Common.{◌≡◌, false, drop}
use Rattle.rx_typed.specs.Regions.{regions_of, region_variants}
use Rattle.rx_typed_declarations.specs.Variance.{fix_among}
use Rattle.rx_typed_declarations.proofs.invariance.fix_variants.Given as goal

abbrev pub invariant-loop-variant : goal.invariant-loop-variant
invariant-loop-variant l =
    fix_among l.table false l.polarities.items (regions_of (region_variants (drop l.variant-index l.variants)))
    ≡ fix_among l.fn.table false l.fn.polarities.items (regions_of (region_variants l.fn.variants))
