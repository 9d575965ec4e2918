use Rattle.std.proofs.Common.{◌≡◌, map, drop}
use Rattle.rx_tree.specs.PlainOf.{plain-FieldPattern, plain-Pattern, field_patterns_of, patterns_of}
use Rattle.rx_hoist_extraction.specs.Names as names
use Rattle.rx_hoist_made.proofs.bound.+binds.Given as goal

abbrev pub invariant-one_binds-loop-pattern : goal.invariant-one_binds-loop-pattern
invariant-one_binds-loop-pattern l =
    names.is_among l.name (names.all_bound (patterns_of (map plain-Pattern (drop l.pattern-index l.patterns))))
    ≡ names.is_among l.name (names.all_bound (patterns_of (map plain-Pattern l.patterns)))

abbrev pub invariant-one_field_binds-loop-field : goal.invariant-one_field_binds-loop-field
invariant-one_field_binds-loop-field l =
    names.is_among l.name (names.fields_bound (field_patterns_of (map plain-FieldPattern (drop l.field-index l.fields))))
    ≡ names.is_among l.name (names.fields_bound (field_patterns_of (map plain-FieldPattern l.fields)))
