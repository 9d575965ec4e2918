use Rattle.std.proofs.Common.{◌≡◌, map, drop}
use Rattle.rx_typed.specs.PlainTypes.{plain-VariantDecl}
use Rattle.rx_typeck_typed.specs.Limits.{variants_fit}
use Rattle.rx_typeck_typed.proofs.limits.variants_fit.Given as goal

abbrev pub invariant-loop-variant : goal.invariant-loop-variant
invariant-loop-variant l = variants_fit (map plain-VariantDecl (drop l.variant-index l.variants))
    ≡ variants_fit (map plain-VariantDecl l.fn.variants)
