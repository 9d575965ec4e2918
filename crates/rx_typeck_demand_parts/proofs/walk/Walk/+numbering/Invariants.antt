use Rattle.std.proofs.Common.{◌≡◌, map, drop}
use Rattle.rx_tree.specs.PlainOf.{plain-Pattern, plain-FieldPattern, patterns_of, field_patterns_of}
use Rattle.rx_typed.specs.Naming as naming
use Rattle.rx_typeck_typed.specs.Asking.{nothing}
use Rattle.rx_typeck_demand_parts.specs.Walks.{behind}
use Rattle.rx_typeck_demand_parts.proofs.walk.Walk.+numbering.Given as goal

abbrev pub invariant-number_patterns-loop-pattern : goal.invariant-number_patterns-loop-pattern
invariant-number_patterns-loop-pattern l =
    behind (naming.of_patterns (patterns_of (map plain-Pattern (drop l.pattern-index l.patterns)))) (λ _. nothing) l.self
    ≡ behind (naming.of_patterns (patterns_of (map plain-Pattern l.fn.patterns))) (λ _. nothing) l.fn.self

abbrev pub invariant-number_fields-loop-field : goal.invariant-number_fields-loop-field
invariant-number_fields-loop-field l =
    behind (naming.of_field_patterns (field_patterns_of (map plain-FieldPattern (drop l.field-index l.fields)))) (λ _. nothing) l.self
    ≡ behind (naming.of_field_patterns (field_patterns_of (map plain-FieldPattern l.fn.fields))) (λ _. nothing) l.fn.self
