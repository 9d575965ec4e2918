use Rattle.std.proofs.Common.{◌≡◌, map, drop}
use Rattle.rx_typed.specs.Types.{shapes_of}
use Rattle.rx_typed.specs.PlainTypes.{plain-FieldDecl}
use Rattle.rx_typed_declarations.specs.Held.{field_types}
use Rattle.rx_cover.specs.Inhabited.{all_valued}
use Rattle.rx_cover.proofs.inhabitance.fields_valued.Given as goal

abbrev pub invariant-loop-field : goal.invariant-loop-field
invariant-loop-field l = all_valued l.table (shapes_of (field_types (map plain-FieldDecl (drop l.field-index l.fields)))) ≡ all_valued l.fn.table (shapes_of (field_types (map plain-FieldDecl l.fn.fields)))
