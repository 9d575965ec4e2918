-- How many values there are, and the names of fields, are the same with numbers and without.
use Rattle.std.proofs.Common.{◌≡◌, ℕ, false, suc, List, [], ◌∷◌, length, map, refl, ap}
use Rattle.rx_tree.specs.declared.tree.Expr.{Expr}
use Rattle.rx_tree.specs.declared.tree.FieldExpr.{FieldExpr}
use Rattle.rx_tree.specs.PlainOf.{plain-Expr, plain-FieldExpr, expressions_of, field_expressions_of}
use Rattle.rx_tree.proofs.Rules.{field_expression_by_parts}
use Rattle.rx_typed.specs.declared.nodes.Site.{Site}
use Rattle.rx_typed.specs.Naming.{Cursor, of_expression, of_expressions, of_fields}
use Rattle.rx_typeck_typed.specs.Demands.{argument_count, names_given}
use Rattle.rx_typeck_demands.specs.Pieces as pieces

pub arguments_counted : (t : Site) (l : List Expr) (c : Cursor) → argument_count (of_expressions t (expressions_of (map plain-Expr l)) c).0 ≡ length l
arguments_counted t [] c = refl
arguments_counted t (e ∷ l) c = ap suc (arguments_counted t l (of_expression false t (plain-Expr e) c).1)

pub field_values_named : (l : List FieldExpr) (c : Cursor) → names_given (of_fields (field_expressions_of (map plain-FieldExpr l)) c).0 ≡ pieces.fields_named l
field_values_named [] c = refl
field_values_named (f ∷ l) c =
    (λ i. (ap (λ p. p.0.name) (field_expression_by_parts f) i) ∷ field_values_named l (of_expression false Site.Expects (plain-FieldExpr f).1 c).1 i)
