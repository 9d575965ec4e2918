-- Forms of expressions that are written by a function of their own: by the equations of plain trees.
use Rattle.std.proofs.Common.{◌≡◌, ℕ, Bool, false, List, [], ◌∷◌, ◌++◌, Option, Some, ap, sym, ◌∙◌}
use Rattle.std.specs.Prelude.{codes}
use Rattle.rx_tree.specs.declared.tree.Expr.{Expr}
use Rattle.rx_tree.specs.declared.tree.Block.{Block}
use Rattle.rx_tree.specs.declared.tree.ExprNode.TheVariants as node
use Rattle.rx_tree.specs.Plain as plain
use Rattle.rx_tree.specs.Plain.{Expression}
use Rattle.rx_tree.specs.PlainOf.{plain-Expr, plain-ExprNode, plain-Block, expression_if}
use Rattle.rx_print_spelling.specs.Pieces.{flat, mark}
use Rattle.rx_print_spelling.specs.Expressions.{pieces}
use Rattle.rx_print.specs.ExpressionParts.{if_else_pieces, print_pieces}
use Rattle.rx_tree.proofs.Rules.{expression_by_node}
use Rattle.rx_print_parts.proofs.Flat.{flat-append}

pub if_else_is : (second : Bool) (depth : ℕ) (e c a x z : Expr) (b y : Block) (other : Option Expr) → e.node ≡ node.If c b other → other ≡ Some a → x ≡ c → y ≡ b → z ≡ a
    → if_else_pieces depth (plain-Expr x) (plain-Block y) (plain-Expr z) ≡ pieces second depth (plain-Expr e)
if_else_is second depth e c a x z b y other is some ex ey ez =
    let tree : plain-Expr e ≡ plain.if e.span (plain-Expr c) (plain-Block b) (plain.present (plain-Expr a)) =
    expression_by_node e ∙ ap (λ n. plain-ExprNode n e.span) (is ∙ ap (λ o. node.If c b o) some) ∙ expression_if e.span c b (Some a) in
    ap (λ v. if_else_pieces depth (plain-Expr v) (plain-Block y) (plain-Expr z)) ex ∙ ap (λ v. if_else_pieces depth (plain-Expr c) (plain-Block v) (plain-Expr z)) ey
    ∙ ap (λ v. if_else_pieces depth (plain-Expr c) (plain-Block b) (plain-Expr v)) ez ∙ ap (λ v. pieces second depth v) (sym tree)

pub print_written : (depth : ℕ) (e : Expression) (o p : List ℕ)
    → p ≡ o ++ (112 ∷ 114 ∷ 105 ∷ 110 ∷ 116 ∷ 108 ∷ 110 ∷ 33 ∷ 40 ∷ 34 ∷ 123 ∷ 125 ∷ 34 ∷ 44 ∷ 32 ∷ (flat (pieces false depth e) ++ (41 ∷ []))) → p ≡ o ++ flat (print_pieces depth e)
print_written depth e o p w =
    w ∙ ap (λ l. o ++ (112 ∷ 114 ∷ 105 ∷ 110 ∷ 116 ∷ 108 ∷ 110 ∷ 33 ∷ 40 ∷ 34 ∷ 123 ∷ 125 ∷ 34 ∷ 44 ∷ 32 ∷ l)) (sym (flat-append (pieces false depth e) (mark (codes ")") ∷ [])))
