use Rattle.std.proofs.Common.{◌≡◌, ◌++◌, map, drop}
use Rattle.rx_typed.specs.Types.{shapes_of}
use Rattle.rx_typed.specs.PlainTypes.{plain-FieldDecl}
use Rattle.rx_typed_declarations.specs.Held.{named_among, field_types}
use Rattle.rx_typed_declarations.proofs.holding.add_named_by_fields.Given as goal

abbrev pub invariant-loop-field : goal.invariant-loop-field
invariant-loop-field l =
    l.held ++ named_among (shapes_of (field_types (map plain-FieldDecl (drop l.field-index l.fields))))
    ≡ l.fn.held ++ named_among (shapes_of (field_types (map plain-FieldDecl l.fn.fields)))
