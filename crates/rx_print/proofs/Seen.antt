-- How the lists of an expression are seen as pieces: each by the clauses of what they are spelled as.
use Rattle.std.proofs.Common.{ℕ, refl, map}
use Rattle.std.specs.Prelude.{false}
use Rattle.rx_tree.specs.PlainOf.{plain-Expr, expressions_of, plain-FieldExpr, field_expressions_of}
use Rattle.rx_print_spelling.specs.Expressions.{pieces, each, each_field}
use Rattle.rx_print_parts.proofs.WrittenLists.{Seen}
use Rattle.rx_print.specs.ExpressionParts as parts

pub expressions_seen : (depth : ℕ) → Seen (λ l. each depth (expressions_of (map plain-Expr l))) (λ x. pieces false depth (plain-Expr x))
expressions_seen depth = record { none = refl; some = λ x xs. refl }

pub fields_seen : (depth : ℕ) → Seen (λ l. each_field depth (field_expressions_of (map plain-FieldExpr l))) (λ x. parts.field_pieces depth (plain-FieldExpr x))
fields_seen depth = record { none = refl; some = λ x xs. refl }
