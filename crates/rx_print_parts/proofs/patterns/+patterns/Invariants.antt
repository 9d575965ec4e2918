-- The invariants of the loops: what is written, and what is left of the list behind it, are the whole text.
use Rattle.std.proofs.Common.{◌≡◌, ◌++◌, drop, map}
use Rattle.rx_tree.specs.PlainOf.{plain-Pattern, patterns_of, plain-FieldPattern, field_patterns_of}
use Rattle.rx_print_spelling.specs.Pieces.{flat, separated}
use Rattle.rx_print_spelling.specs.Patterns.{each_pattern, each_field_pattern}
use Rattle.rx_print_parts.proofs.WrittenLists.{left_of}
use Rattle.rx_print_parts.proofs.patterns.+patterns.Given as goal

abbrev pub invariant-push_patterns-loop-pattern : goal.invariant-push_patterns-loop-pattern
invariant-push_patterns-loop-pattern l =
    l.out ++ flat (left_of l.follows (each_pattern (patterns_of (map plain-Pattern (drop l.pattern-index l.list))))) ≡ l.fn.out ++ flat (separated (each_pattern (patterns_of (map plain-Pattern l.list))))

abbrev pub invariant-push_fields-loop-field : goal.invariant-push_fields-loop-field
invariant-push_fields-loop-field l =
    l.out ++ flat (left_of l.follows (each_field_pattern (field_patterns_of (map plain-FieldPattern (drop l.field-index l.list)))))
    ≡ l.fn.out ++ flat (separated (each_field_pattern (field_patterns_of (map plain-FieldPattern l.list))))
