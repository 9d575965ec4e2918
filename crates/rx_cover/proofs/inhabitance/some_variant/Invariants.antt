use Rattle.std.proofs.Common.{◌≡◌, map, drop}
use Rattle.rx_typed.specs.PlainTypes.{plain-VariantDecl}
use Rattle.rx_cover.specs.Inhabited.{some_variant}
use Rattle.rx_cover.proofs.inhabitance.some_variant.Given as goal

abbrev pub invariant-loop-variant : goal.invariant-loop-variant
invariant-loop-variant l = some_variant l.table (map plain-VariantDecl (drop l.variant-index l.variants)) ≡ some_variant l.fn.table (map plain-VariantDecl l.fn.variants)
