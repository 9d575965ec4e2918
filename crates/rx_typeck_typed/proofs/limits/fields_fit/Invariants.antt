use Rattle.std.proofs.Common.{◌≡◌, map, drop}
use Rattle.rx_typed.specs.PlainTypes.{plain-FieldDecl}
use Rattle.rx_typeck_typed.specs.Limits.{fields_fit}
use Rattle.rx_typeck_typed.proofs.limits.fields_fit.Given as goal

abbrev pub invariant-loop-field : goal.invariant-loop-field
invariant-loop-field l = fields_fit (map plain-FieldDecl (drop l.field-index l.fields))
    ≡ fields_fit (map plain-FieldDecl l.fn.fields)
