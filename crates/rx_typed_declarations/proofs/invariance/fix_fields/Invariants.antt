use Rattle.std.proofs.Common.{◌≡◌, false, drop}
use Rattle.rx_typed.specs.Regions.{regions_of, region_fields}
use Rattle.rx_typed_declarations.specs.Variance.{fix_among}
use Rattle.rx_typed_declarations.proofs.invariance.fix_fields.Given as goal

abbrev pub invariant-loop-field : goal.invariant-loop-field
invariant-loop-field l =
    fix_among l.table false l.polarities.items (regions_of (region_fields (drop l.field-index l.fields)))
    ≡ fix_among l.fn.table false l.fn.polarities.items (regions_of (region_fields l.fn.fields))
