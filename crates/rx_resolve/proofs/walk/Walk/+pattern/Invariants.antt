use Rattle.std.proofs.Common.{◌≡◌, map, drop}
use Rattle.rx_tree.specs.PlainOf.{plain-Pattern, plain-FieldPattern, patterns_of, field_patterns_of}
use Rattle.rx_resolve_names.specs.Names.{in_patterns, in_field_patterns}
use Rattle.rx_resolve.specs.Walks.{inside, with_tables}
use Rattle.rx_resolve.proofs.walk.Walk.+pattern.Given as goal

abbrev pub invariant-patterns-loop-pattern : goal.invariant-patterns-loop-pattern
invariant-patterns-loop-pattern l =
    (in_patterns (inside l.fn.self) l.fn.self.path l.child (patterns_of (map plain-Pattern (drop l.pattern-index l.patterns))) (record { bindings = l.bindings; tables = l.self.tables })
    ≡ in_patterns (inside l.fn.self) l.fn.self.path 0 (patterns_of (map plain-Pattern l.fn.patterns)) (record { bindings = l.fn.bindings; tables = l.fn.self.tables }))
    × (l.self ≡ with_tables l.self.tables l.fn.self)

abbrev pub invariant-field_patterns-loop-field : goal.invariant-field_patterns-loop-field
invariant-field_patterns-loop-field l =
    (in_field_patterns (inside l.fn.self) l.fn.self.path l.child (field_patterns_of (map plain-FieldPattern (drop l.field-index l.fields))) (record { bindings = l.bindings; tables = l.self.tables })
    ≡ in_field_patterns (inside l.fn.self) l.fn.self.path 0 (field_patterns_of (map plain-FieldPattern l.fn.fields)) (record { bindings = l.fn.bindings; tables = l.fn.self.tables }))
    × (l.self ≡ with_tables l.self.tables l.fn.self)
