use Rattle.std.proofs.Common.{◌≡◌, ◌++◌, map, drop}
use Rattle.rx_tree.specs.PlainOf.{plain-Pattern, plain-FieldPattern, patterns_of, field_patterns_of}
use Rattle.rx_typed.specs.Naming.{of_patterns, of_field_patterns}
use Rattle.rx_typed.specs.Elaborated.{subpatterns, field_patterns}
use Rattle.rx_typed.specs.PlainTree.{plain-Subpattern}
use Rattle.rx_typeck_elaborate_parts.specs.Coercing.{types_of}
use Rattle.rx_typeck_elaborate_parts.specs.Listing.{parts_listed}
use Rattle.rx_typeck_elaborate_parts.specs.Walks.{moved}
use Rattle.rx_typeck_elaborate_parts.proofs.walk.Walk.+pattern.Given as goal

abbrev pub invariant-parts-loop-field : goal.invariant-parts-loop-field
invariant-parts-loop-field l =
    let left = of_patterns (patterns_of (map plain-Pattern (drop l.field l.parts))) l.self.cursor in
    let whole = of_patterns (patterns_of (map plain-Pattern l.fn.parts)) l.fn.self.cursor in
    (map plain-Subpattern l.all ++ parts_listed (subpatterns (types_of l.self.given) l.round l.field left.0)
    ≡ parts_listed (subpatterns (types_of l.fn.self.given) l.fn.round 0 whole.0))
    × (moved left.1 l.self ≡ moved whole.1 l.fn.self)

abbrev pub invariant-field_patterns-loop-field : goal.invariant-field_patterns-loop-field
invariant-field_patterns-loop-field l =
    let left = of_field_patterns (field_patterns_of (map plain-FieldPattern (drop l.field-index l.fields))) l.self.cursor in
    let whole = of_field_patterns (field_patterns_of (map plain-FieldPattern l.fn.fields)) l.fn.self.cursor in
    (map plain-Subpattern l.all ++ parts_listed (field_patterns (types_of l.self.given) l.fn.round l.fn.item left.0)
    ≡ parts_listed (field_patterns (types_of l.fn.self.given) l.fn.round l.fn.item whole.0))
    × (moved left.1 l.self ≡ moved whole.1 l.fn.self)
