use Rattle.std.proofs.Common.{◌≡◌, map, drop}
use Rattle.rx_typed.specs.Types.{field_typ}
use Rattle.rx_typed.specs.PlainTypes.{plain-FieldDecl}
use Rattle.rx_typeck_solver.proofs.lookup.field_named.Given as goal

abbrev pub invariant-loop-field : goal.invariant-loop-field
invariant-loop-field l = field_typ (map plain-FieldDecl (drop l.field-index l.fields)) l.name ≡ field_typ (map plain-FieldDecl l.fn.fields) l.name
