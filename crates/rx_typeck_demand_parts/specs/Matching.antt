-- What patterns are matched with, and what is told of a pattern.
use Rattle.std.specs.Prelude.{ℕ, List, map}
use Rattle.rx_tree.specs.declared.tree.FieldPattern.{FieldPattern}
use Rattle.rx_typed.specs.Named.{Pattern, pattern_node, whole_binding}
use Rattle.rx_typeck_demand_parts.specs.declared.matched.Matched as code
use Rattle.rx_typeck_demand_parts.specs.declared.matched.Matched.TheVariants as form
use Rattle.rx_typeck_demand_parts.specs.declared.matched.Declares.{Declares}
use Rattle.rx_typeck_typed.specs.Demands.{Matched, a_value, a_place, an_initialiser}

abbrev pub matched_as : code.Matched → Matched
matched_as form.Value = a_value
matched_as (form.Place x ps) = a_place x ps.now
matched_as (form.Initialiser n x ps) = an_initialiser n x ps.now

abbrev pub declares_of : Pattern → Declares
declares_of p = record { node = pattern_node p; variable = whole_binding p }

abbrev pub fields_named : List FieldPattern → List (List ℕ)
fields_named fs = map (λ (f : FieldPattern). f.field.name) fs
