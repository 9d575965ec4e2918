use Rattle.std.proofs.Common.{◌≡◌, map, drop}
use Rattle.rx_typed.specs.PlainTypes.{declarations, plain-VariantDecl}
use Rattle.rx_typeck_typed.specs.Programs.{variants_copy}
use Rattle.rx_typeck_typed.proofs.copying.variants_copy.Given as goal

abbrev pub invariant-loop-variant : goal.invariant-loop-variant
invariant-loop-variant l = variants_copy (declarations l.decls.items)
    (map plain-VariantDecl (drop l.variant-index l.variants))
    ≡ variants_copy (declarations l.fn.decls.items) (map plain-VariantDecl l.fn.variants)
