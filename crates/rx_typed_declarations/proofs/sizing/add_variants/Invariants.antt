use Rattle.std.proofs.Common.{◌≡◌, map, drop}
use Rattle.rx_typed.specs.Types.{shapes_of}
use Rattle.rx_typed.specs.PlainTypes.{plain-VariantDecl}
use Rattle.rx_typed_declarations.specs.Held.{variant_types}
use Rattle.rx_typed_declarations.specs.Sizes.{told_sum}
use Rattle.rx_typed_declarations.proofs.sizing.add_variants.Given as goal

abbrev pub invariant-loop-variant : goal.invariant-loop-variant
invariant-loop-variant l =
    told_sum l.sizes l.total (shapes_of (variant_types (map plain-VariantDecl (drop l.variant-index l.variants))))
    ≡ told_sum l.fn.sizes 1 (shapes_of (variant_types (map plain-VariantDecl l.fn.variants)))
