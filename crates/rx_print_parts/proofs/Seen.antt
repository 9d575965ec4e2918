-- How the lists of a tree are seen as pieces: each by the clauses of what they are spelled as.
use Rattle.std.proofs.Common.{List, refl, map}
use Rattle.std.specs.Prelude.{false}
use Rattle.rx_tree.specs.PlainOf.{plain-TypeText, types_of, plain-Pattern, patterns_of, plain-FieldPattern, field_patterns_of, plain-Param, plain-Field, plain-EnumVariant}
use Rattle.rx_print_spelling.specs.Types.{argument_pieces, type_pieces, each_type}
use Rattle.rx_print_spelling.specs.Patterns.{pattern_pieces, each_pattern, each_field_pattern}
use Rattle.rx_print_spelling.specs.Pieces.{Piece}
use Rattle.rx_print_spelling.specs.Items.{parameter_pieces, field_pieces, variant_pieces}
use Rattle.rx_print_parts.specs.Parts.{field_pattern_pieces}
use Rattle.rx_print_parts.proofs.WrittenLists.{Seen}

pub lifetimes_seen : Seen (map argument_pieces) argument_pieces
lifetimes_seen = record { none = refl; some = λ x xs. refl }

pub types_seen : Seen (λ l. each_type (types_of (map plain-TypeText l))) (λ x. type_pieces false (plain-TypeText x))
types_seen = record { none = refl; some = λ x xs. refl }

pub patterns_seen : Seen (λ l. each_pattern (patterns_of (map plain-Pattern l))) (λ x. pattern_pieces (plain-Pattern x))
patterns_seen = record { none = refl; some = λ x xs. refl }

pub field_patterns_seen : Seen (λ l. each_field_pattern (field_patterns_of (map plain-FieldPattern l))) (λ x. field_pattern_pieces (plain-FieldPattern x))
field_patterns_seen = record { none = refl; some = λ x xs. refl }

pub mapped : {A : Type 0} (one : A → List Piece) → Seen (map one) one
mapped one = record { none = refl; some = λ x xs. refl }

pub parameters_seen : Seen (λ l. map parameter_pieces (map plain-Param l)) (λ x. parameter_pieces (plain-Param x))
parameters_seen = record { none = refl; some = λ x xs. refl }

pub declared_fields_seen : Seen (λ l. map field_pieces (map plain-Field l)) (λ x. field_pieces (plain-Field x))
declared_fields_seen = record { none = refl; some = λ x xs. refl }

pub variants_seen : Seen (λ l. map variant_pieces (map plain-EnumVariant l)) (λ x. variant_pieces (plain-EnumVariant x))
variants_seen = record { none = refl; some = λ x xs. refl }
