use Rattle.std.proofs.Common.{◌≡◌, map, drop}
use Rattle.rx_typed.specs.Types.{shapes_of}
use Rattle.rx_typed.specs.PlainTypes.{plain-FieldDecl}
use Rattle.rx_typed_declarations.specs.Held.{field_types}
use Rattle.rx_typed_declarations.specs.Sizes.{told_sum}
use Rattle.rx_typed_declarations.proofs.sizing.add_fields.Given as goal

abbrev pub invariant-loop-field : goal.invariant-loop-field
invariant-loop-field l =
    told_sum l.sizes l.total (shapes_of (field_types (map plain-FieldDecl (drop l.field-index l.fields))))
    ≡ told_sum l.fn.sizes 0 (shapes_of (field_types (map plain-FieldDecl l.fn.fields)))
