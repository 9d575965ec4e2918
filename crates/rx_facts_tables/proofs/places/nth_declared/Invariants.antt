use Rattle.std.proofs.Common.{◌≡◌, ◌+◌, map, drop}
use Rattle.rx_typed.specs.Types.{sum_of_parts, shapes_of}
use Rattle.rx_typed.specs.PlainTypes.{plain-FieldDecl}
use Rattle.rx_typed_declarations.specs.Held.{field_types}
use Rattle.rx_typed_declarations.specs.Sizes.{told}
use Rattle.rx_facts_tables.specs.Places.{nth_field}
use Rattle.rx_facts_tables.proofs.places.nth_declared.Given as goal

abbrev pub invariant-loop-field : goal.invariant-loop-field
invariant-loop-field l = record {
  same : nth_field (told l.sizes) (field_types (map plain-FieldDecl (drop l.field-index l.fields))) l.left l.first ≡ nth_field (told l.fn.sizes) (field_types (map plain-FieldDecl l.fn.fields)) l.fn.number l.fn.first;
  room : l.first + sum_of_parts (told l.sizes) (shapes_of (field_types (map plain-FieldDecl (drop l.field-index l.fields))))
      ≡ l.fn.first + sum_of_parts (told l.fn.sizes) (shapes_of (field_types (map plain-FieldDecl l.fn.fields)));
}
