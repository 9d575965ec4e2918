use Rattle.std.proofs.Common.{◌≡◌, map, drop}
use Rattle.rx_typed.specs.PlainTypes.{declarations, plain-FieldDecl}
use Rattle.rx_typeck_typed.specs.Programs.{fields_copy}
use Rattle.rx_typeck_typed.proofs.copying.fields_copy.Given as goal

abbrev pub invariant-loop-field : goal.invariant-loop-field
invariant-loop-field l = fields_copy (declarations l.decls.items) (map plain-FieldDecl (drop l.field-index l.fields))
    ≡ fields_copy (declarations l.fn.decls.items) (map plain-FieldDecl l.fn.fields)
