use Rattle.std.proofs.Common.{◌≡◌, ◌++◌, drop}
use Rattle.rx_typeck_demands.specs.Pieces.{fields_named}
use Rattle.rx_typeck_demands.proofs.values.field_names.Given as goal

abbrev pub invariant-loop-field : goal.invariant-loop-field
invariant-loop-field l = l.names ++ fields_named (drop l.field-index l.fields) ≡ fields_named l.fn.fields
