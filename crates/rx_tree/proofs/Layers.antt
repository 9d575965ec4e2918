-- The plain tree of an expression by its node's layer, for what is said of the forms that a match passes over: by one pass over the
-- forms of the layer.
use Rattle.std.proofs.Common.{◌≡◌, sym, ap, ◌∙◌}
use Rattle.rx_core.specs.declared.types.Span.{Span}
use Rattle.rx_tree.specs.declared.tree.Ident.{Ident}
use Rattle.rx_tree.specs.declared.tree.Expr.{Expr}
use Rattle.rx_tree.specs.declared.tree.Stmt.{Stmt}
use Rattle.rx_tree.specs.declared.tree.Arm.{Arm}
use Rattle.rx_tree.specs.declared.tree.FieldExpr.{FieldExpr}
use Rattle.rx_tree.specs.declared.tree.Block.{Block}
use Rattle.rx_tree.specs.declared.tree.StmtNode.{StmtNode}
use Rattle.rx_tree.specs.declared.tree.ExprNode.{ExprNode, ExprNode-F, out-ExprNode, roll-ExprNode, roll-out-ExprNode, fold_out-ExprNode, map-ExprNode}
use Rattle.rx_tree.specs.Plain.{PatternTree, Expression, Body, Statement}
use Rattle.rx_tree.specs.PlainOf.{plain-Expr, plain-ExprNode, plain-StmtNode, plain-Arm, plain-Block, plain-FieldExpr, plain-Stmt, expression_node_step, statement_node_step, arm_step, block_step, expression_step, field_expression_step, statement_step, expression_is}

-- the form of a node, with the trees that it holds
abbrev pub Layer : Type 0
Layer = ExprNode-F ExprNode StmtNode Arm Block Expr FieldExpr Stmt

abbrev pub seen : Layer → Span → Expression
seen x =
    expression_node_step (map-ExprNode ExprNode StmtNode Arm Block Expr FieldExpr Stmt (Span → Expression) (Span → Statement) (PatternTree × Expression)
    Body Expression (Ident × Expression) Statement plain-ExprNode plain-StmtNode plain-Arm plain-Block plain-Expr plain-FieldExpr plain-Stmt x)

seen_is : (n : ExprNode) (s : Span) → plain-ExprNode n s ≡ seen (out-ExprNode n) s
unfolding plain-ExprNode plain-StmtNode plain-Arm plain-Block plain-Expr plain-FieldExpr plain-Stmt
seen_is n s =
    ap (λ (f : Span → Expression). f s) (fold_out-ExprNode (Span → Expression) (Span → Statement) (PatternTree × Expression) Body Expression
    (Ident × Expression) Statement expression_node_step statement_node_step arm_step block_step expression_step field_expression_step statement_step n)

-- the node of a layer
pub back : (n : ExprNode) (x : Layer) → out-ExprNode n ≡ x → n ≡ roll-ExprNode x
back n x e = sym (roll-out-ExprNode n) ∙ ap roll-ExprNode e

pub by_layer : (e : Expr) → plain-Expr e ≡ seen (out-ExprNode e.node) e.span
by_layer e = expression_is e.span e.node ∙ seen_is e.node e.span
