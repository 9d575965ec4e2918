use Rattle.std.proofs.Common.{◌≡◌, ◌+◌, map, drop}
use Rattle.rx_typed.specs.Types.{field_number}
use Rattle.rx_typed.specs.PlainTypes.{plain-FieldDecl}
use Rattle.rx_typeck_elaborate_parts.proofs.looked_up.field_number.Given as goal

abbrev pub invariant-loop-number : goal.invariant-loop-number
invariant-loop-number l = l.number + field_number (map plain-FieldDecl (drop l.number l.fields)) l.name ≡ field_number (map plain-FieldDecl l.fn.fields) l.name
