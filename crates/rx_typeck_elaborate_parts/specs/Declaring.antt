-- What is told of a pattern.
use Rattle.std.specs.Prelude.{Some, None}
use Rattle.rx_typed.specs.Named as named
use Rattle.rx_typed.specs.Named.{Pattern, pattern_node}
use Rattle.rx_typeck_elaborate_parts.specs.declared.patterns.Declares.{Declares}

abbrev pub declares_of : Pattern → Declares
declares_of (named.bind n x m) = record { node = n; variable = Some x }
declares_of p = record { node = pattern_node p; variable = None }
