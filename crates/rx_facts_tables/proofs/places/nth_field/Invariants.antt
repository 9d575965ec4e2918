use Rattle.std.proofs.Common.{◌≡◌, ◌+◌, map, drop}
use Rattle.rx_typed.specs.Types.{sum_of_parts, shapes_of}
use Rattle.rx_typed.specs.PlainTypes.{plain-Ty}
use Rattle.rx_typed_declarations.specs.Sizes.{told}
use Rattle.rx_facts_tables.specs.Places.{nth_field}
use Rattle.rx_facts_tables.proofs.places.nth_field.Given as goal

abbrev pub invariant-loop-field : goal.invariant-loop-field
invariant-loop-field l = record {
  same : nth_field (told l.sizes) (map plain-Ty (drop l.field-index l.fields)) l.left l.first ≡ nth_field (told l.fn.sizes) (map plain-Ty l.fn.fields) l.fn.number l.fn.first;
  room : l.first + sum_of_parts (told l.sizes) (shapes_of (map plain-Ty (drop l.field-index l.fields)))
      ≡ l.fn.first + sum_of_parts (told l.fn.sizes) (shapes_of (map plain-Ty l.fn.fields));
}
