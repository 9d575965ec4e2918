use Rattle.std.proofs.Common.{◌≡◌, map, drop}
use Rattle.rx_tree.specs.PlainOf.{plain-Pattern, plain-FieldPattern, patterns_of, field_patterns_of}
use Rattle.rx_typed.specs.Naming as naming
use Rattle.rx_typeck_typed.specs.Demands as demands
use Rattle.rx_typeck_demand_parts.specs.Matching.{matched_as}
use Rattle.rx_typeck_demand_parts.specs.Walks.{behind}
use Rattle.rx_typeck_demand_parts.proofs.walk.Walk.+pattern.Given as goal

abbrev pub invariant-parts-loop-place : goal.invariant-parts-loop-place
invariant-parts-loop-place l =
    behind (naming.of_patterns (patterns_of (map plain-Pattern (drop l.place l.parts)))) (demands.of_parts (matched_as l.fn.matched) l.fn.round l.fn.node l.place) l.self
    ≡ behind (naming.of_patterns (patterns_of (map plain-Pattern l.fn.parts))) (demands.of_parts (matched_as l.fn.matched) l.fn.round l.fn.node 0) l.fn.self

abbrev pub invariant-variant_parts-loop-place : goal.invariant-variant_parts-loop-place
invariant-variant_parts-loop-place l =
    behind (naming.of_patterns (patterns_of (map plain-Pattern (drop l.place l.parts)))) (demands.of_variant_parts (matched_as l.fn.matched) l.fn.round l.fn.names.first l.fn.names.second l.place) l.self
    ≡ behind (naming.of_patterns (patterns_of (map plain-Pattern l.fn.parts))) (demands.of_variant_parts (matched_as l.fn.matched) l.fn.round l.fn.names.first l.fn.names.second 0) l.fn.self

abbrev pub invariant-field_patterns-loop-field : goal.invariant-field_patterns-loop-field
invariant-field_patterns-loop-field l =
    behind (naming.of_field_patterns (field_patterns_of (map plain-FieldPattern (drop l.field-index l.fields)))) (demands.of_field_patterns (matched_as l.fn.matched) l.fn.round l.fn.item) l.self
    ≡ behind (naming.of_field_patterns (field_patterns_of (map plain-FieldPattern l.fn.fields))) (demands.of_field_patterns (matched_as l.fn.matched) l.fn.round l.fn.item) l.fn.self
