use Rattle.std.proofs.Common.{◌≡◌, ◌++◌, map, drop}
use Rattle.rx_typed.specs.PlainTypes.{plain-FieldDecl}
use Rattle.rx_typed_declarations.specs.Held.{field_types}
use Rattle.rx_cover.specs.PlainCells.{plain-Column}
use Rattle.rx_cover.proofs.rows.columns_of_fields.Given as goal

abbrev pub invariant-loop-field : goal.invariant-loop-field
invariant-loop-field l = map plain-Column l.columns ++ field_types (map plain-FieldDecl (drop l.field-index l.fields)) ≡ field_types (map plain-FieldDecl l.fn.fields)
