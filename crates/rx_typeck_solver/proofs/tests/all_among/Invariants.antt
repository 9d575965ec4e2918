use Rattle.std.proofs.Common.{◌≡◌, drop, map}
use Rattle.rx_typeck_solver.specs.Facts.{all_among, names_of}
use Rattle.rx_typed.specs.PlainTypes.{plain-FieldDecl}
use Rattle.rx_typeck_solver.proofs.tests.all_among.Given as goal

abbrev pub invariant-loop-field : goal.invariant-loop-field
invariant-loop-field l = all_among (names_of (map plain-FieldDecl (drop l.field-index l.fields))) l.names ≡ all_among (names_of (map plain-FieldDecl l.fn.fields)) l.names
