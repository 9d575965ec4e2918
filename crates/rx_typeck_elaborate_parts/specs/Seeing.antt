-- What is told of an expression that was walked.
use Rattle.std.specs.Prelude.{Bool, true, false}
use Rattle.rx_typed.specs.declared.nodes.Node.{Node}
use Rattle.rx_typed.specs.declared.nodes.Use.{Use}
use Rattle.rx_typed.specs.Named.{Exp, node_of, never, diverges, is_place, is_variable, root, no_variable}
use Rattle.rx_typeck_elaborate_parts.specs.declared.seen.Seen.{Seen}

abbrev pub seen_of : Exp → Seen
seen_of e = record { node = node_of e; never = never e; diverges = diverges e; place = is_place e; whole = is_variable e; root = root e }

abbrev pub value_seen : Node → Bool → Bool → Seen
value_seen n v d = record { node = n; never = v; diverges = d; place = false; whole = false; root = no_variable }

abbrev pub part_seen : Node → Bool → Use → Seen
part_seen n d x = record { node = n; never = false; diverges = d; place = true; whole = false; root = x }

abbrev pub variable_seen : Node → Use → Seen
variable_seen n x = record { node = n; never = false; diverges = false; place = true; whole = true; root = x }
