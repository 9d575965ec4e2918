-- The arms of a `match` are less deep than it.
use Rattle.std.proofs.Common.{◌≡◌, ◌<◌, ◌≤◌, ◌+◌, max, List, refl, sym, ap, ◌∙◌, arith}
use denote.Param.Weighed.{most}
use Rattle.rx_tree.specs.declared.tree.Expr.{Expr, size_is-Expr}
use Rattle.rx_tree.specs.declared.tree.Arm.{Arm}
use Rattle.rx_tree.specs.declared.tree.ExprNode.{ExprNode, size-ExprNode}
use Rattle.rx_tree.specs.declared.tree.ExprNode.TheViews.{sized-Match}
use Rattle.rx_tree.specs.declared.tree.ExprNode.TheVariants as node
use Rattle.rx_tree.proofs.tree.Expr.TheLaws as expr
use Rattle.rx_tree.proofs.tree.Arm.TheLaws as arm

pub match_deeper : (e v : Expr) (l : List Arm) → e.node ≡ node.Match v l → most arm.the_size l < expr.the_size e
match_deeper e v l is =
    let whole : expr.the_size e ≡ max 0 (max (size-ExprNode e.node) 0) + 1 = size_is-Expr e in
    let here : size-ExprNode e.node ≡ size-ExprNode (node.Match v l) = ap size-ExprNode is in
    let parts : size-ExprNode (node.Match v l) ≡ max (expr.the_size v) (max (most arm.the_size l) 0) + 1 = sized-Match v l in
    omega (arith, whole, here, parts)
