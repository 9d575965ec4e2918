use Rattle.std.proofs.Common.{◌≡◌, ◌++◌, drop}
use Rattle.rx_typeck_demand_parts.specs.Matching.{fields_named}
use Rattle.rx_typeck_demand_parts.proofs.patterns.field_names.Given as goal

abbrev pub invariant-loop-field : goal.invariant-loop-field
invariant-loop-field l = l.names ++ fields_named (drop l.field-index l.fields) ≡ fields_named l.fn.fields
