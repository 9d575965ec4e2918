-- How many parts a pattern has, and the names of its fields, are the same with numbers and without.
use Rattle.std.proofs.Common.{◌≡◌, ℕ, suc, List, [], ◌∷◌, length, map, refl, ap, ◌∙◌}
use Rattle.rx_tree.specs.declared.tree.Ident.{Ident}
use Rattle.rx_tree.specs.declared.tree.Pattern.{Pattern}
use Rattle.rx_tree.specs.declared.tree.FieldPattern.{FieldPattern}
use Rattle.rx_tree.specs.PlainOf.{plain-Pattern, plain-FieldPattern, patterns_of, field_patterns_of}
use Rattle.rx_tree.proofs.Rules.{field_pattern_by_parts}
use Rattle.rx_typed.specs.Naming.{Cursor, of_pattern, of_patterns, of_field_patterns}
use Rattle.rx_typeck_typed.specs.Demands.{count, field_names}
use Rattle.rx_typeck_demand_parts.specs.Matching.{fields_named}

pub patterns_counted : (l : List Pattern) (c : Cursor) → count (of_patterns (patterns_of (map plain-Pattern l)) c).0 ≡ length l
patterns_counted [] c = refl
patterns_counted (p ∷ l) c = ap suc (patterns_counted l (of_pattern (plain-Pattern p) c).1)

pub field_patterns_named : (l : List FieldPattern) (c : Cursor) → field_names (of_field_patterns (field_patterns_of (map plain-FieldPattern l)) c).0 ≡ fields_named l
field_patterns_named [] c = refl
field_patterns_named (f ∷ l) c =
    (λ i. (ap (λ p. p.0.name) (field_pattern_by_parts f) i) ∷ field_patterns_named l (of_pattern (plain-FieldPattern f).1 c).1 i)
