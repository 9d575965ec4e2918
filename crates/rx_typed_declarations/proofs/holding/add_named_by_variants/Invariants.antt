use Rattle.std.proofs.Common.{◌≡◌, ◌++◌, map, drop}
use Rattle.rx_typed.specs.Types.{shapes_of}
use Rattle.rx_typed.specs.PlainTypes.{plain-VariantDecl}
use Rattle.rx_typed_declarations.specs.Held.{named_among, variant_types}
use Rattle.rx_typed_declarations.proofs.holding.add_named_by_variants.Given as goal

abbrev pub invariant-loop-variant : goal.invariant-loop-variant
invariant-loop-variant l =
    l.held ++ named_among (shapes_of (variant_types (map plain-VariantDecl (drop l.variant-index l.variants))))
    ≡ l.fn.held ++ named_among (shapes_of (variant_types (map plain-VariantDecl l.fn.variants)))
