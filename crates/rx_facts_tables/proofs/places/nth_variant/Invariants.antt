use Rattle.std.proofs.Common.{◌≡◌, ◌+◌, map, drop}
use Rattle.rx_typed.specs.Types.{sum_of_parts, shapes_of}
use Rattle.rx_typed.specs.PlainTypes.{plain-VariantDecl}
use Rattle.rx_typed_declarations.specs.Held.{variant_types}
use Rattle.rx_typed_declarations.specs.Sizes.{told}
use Rattle.rx_facts_tables.specs.Places.{nth_variant}
use Rattle.rx_facts_tables.proofs.places.nth_variant.Given as goal

abbrev pub invariant-loop-variant : goal.invariant-loop-variant
invariant-loop-variant l = record {
  same : nth_variant (told l.sizes) (map plain-VariantDecl (drop l.variant-index l.variants)) l.left l.first ≡ nth_variant (told l.fn.sizes) (map plain-VariantDecl l.fn.variants) l.fn.number l.fn.first;
  room : l.first + sum_of_parts (told l.sizes) (shapes_of (variant_types (map plain-VariantDecl (drop l.variant-index l.variants))))
      ≡ l.fn.first + sum_of_parts (told l.fn.sizes) (shapes_of (variant_types (map plain-VariantDecl l.fn.variants)));
}
