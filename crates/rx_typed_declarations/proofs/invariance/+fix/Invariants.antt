use Rattle.std.proofs.Common.{◌≡◌, map, drop}
use Rattle.rx_typed.specs.Regions.{regions_of, region-Ty}
use Rattle.rx_typed_declarations.specs.Variance.{fix_among}
use Rattle.rx_typed_declarations.proofs.invariance.+fix.Given as goal

abbrev pub invariant-fix_among-loop-ty : goal.invariant-fix_among-loop-ty
invariant-fix_among-loop-ty l =
    fix_among l.table l.under l.polarities.items (regions_of (map region-Ty (drop l.ty-index l.types)))
    ≡ fix_among l.fn.table l.fn.under l.fn.polarities.items (regions_of (map region-Ty l.fn.types))
