use Rattle.std.proofs.Common.{Bool, false, ◌&&◌, List, ◌∙◌, ap, sym, subst, map, option_map}
use Rattle.rx_tree.specs.declared.tree.StmtNode.TheVariants as statement_node
use Rattle.rx_tree.specs.declared.tree.Expr.{Expr}
use Rattle.rx_tree.specs.declared.tree.Block.{Block}
use Rattle.rx_tree.specs.declared.tree.FieldExpr.{FieldExpr}
use Rattle.rx_tree.specs.declared.tree.Arm.{Arm}
use Rattle.rx_tree.specs.Plain as plain
use Rattle.rx_tree.specs.Plain.{Expression, Statement}
use Rattle.rx_tree.specs.PlainOf.{plain-Expr, plain-ExprNode, plain-TypeText, plain-FieldExpr, plain-Arm, plain-Pattern, plain-Block, plain-StmtNode, optional_of, field_expressions_of, arms_of, expression_make, expression_if, expression_if_let, expression_match}
use Rattle.rx_tree.proofs.Rules.{expression_by_node, statement_by_node, let_with}
use Rattle.rx_typed.specs.Named.{node_of, statement_diverges}
use Rattle.rx_typed.specs.Naming.{annotates, of_expression, of_statement}
use Rattle.rx_typed.specs.Elaborated.{value, place, matched, statement}
use Rattle.rx_typed.specs.Tree as tree
use Rattle.rx_typed.specs.PlainTree.{plain-Expr as plain-ExprOf}
use Rattle.rx_typed.specs.PlainTree.{plain-Place, plain-Matched, plain-Stmt}
use Rattle.rx_typeck_elaborate_parts.specs.Seeing.{seen_of}
use Rattle.rx_typeck_elaborate_parts.specs.Coercing.{types_of, place_matched}
use Rattle.rx_typeck_elaborate_parts.specs.Telling.{plain_ways, both_ways, ways_made, ways_of_both}
use Rattle.rx_typeck_elaborate_parts.specs.declared.walk.Walk.{Walk}
use Rattle.rx_typeck_elaborate_parts.specs.Walks.{Tells, moved}
use Rattle.rx_typeck_elaborate.proofs.ToldLemmas.{told_as, no_place, own_nothing, place_is_matched}
use Rattle.rx_typeck_elaborate.proofs.Looked.{lets_told, if_let_told}
use Rattle.rx_typeck_elaborate.proofs.+expression.Goals as goal

pub walked_places::place-returns-in_default : goal.walked_places::place-returns-in_default
walked_places::place-returns-in_default t c =
    let number = of_expression false c.args.site (plain-Expr c.args.expr.now) in
    let old = c.args.walk.now in
    let none = no_place c.args.expr.now c.args.site old.cursor c.in_default.not-Var c.in_default.not-Field c.in_default.not-Part c.in_default.not-Deref in
    told_as plain-Place number (λ T e. tree.own 0) place seen_of old c.no_place.result c.no_place.new.walk (own_nothing (types_of old.given) (number old.cursor).0 none) c.no_place.ensures

pub walked_places::matched-returns-then-is_place : goal.walked_places::matched-returns-then-is_place
walked_places::matched-returns-then-is_place t c =
    let number = of_expression false c.args.site (plain-Expr c.args.expr.now) in
    let old = c.args.walk.now in
    told_as plain-Matched number (λ T e. place_matched T (node_of e) (place T e)) (λ T e. matched T e (value T e)) seen_of old c.matched_place.result c.matched_place.new.walk
    (place_is_matched (types_of old.given) (number old.cursor).0 (c.is_place.ensures c.args.site old.cursor ∙ c.if-is_place.true)) c.matched_place.ensures

pub statements::statement_tree-returns-in-Some : goal.statements::statement_tree-returns-in-Some
statements::statement_tree-returns-in-Some t c =
    let s = c.args.statement.now in
    let is = statement_by_node s ∙ ap (λ n. plain-StmtNode n s.span) (c.in-Let.is ∙ ap (λ i. statement_node.Let c.in-Let.pattern c.in-Let.typ i) c.in-Some.is) ∙ let_with s.span c.in-Let.pattern c.in-Let.typ c.in-Some.expr in
    subst (λ (a : Statement). Tells plain-Stmt (of_statement a) statement statement_diverges c.args.walk.now c.lets.result c.lets.new.walk) (sym is) c.lets.ensures

pub statements::lets-returns : goal.statements::lets-returns
statements::lets-returns t c =
    let never = c.both.ensures ∙ ap (λ (a : Bool). a && c.in_ok-pattern.seen.never) c.has_no_type.ensures in
    let noted = c.in_ok-annotate.ensures ∙ ap (λ (w : Walk). moved (annotates (plain-Pattern c.args.pattern.now) (option_map plain-TypeText c.args.typ.now) w.cursor).1 w) c.in_ok-node.ensures.1 in
    lets_told c.args.span (plain-Pattern c.args.pattern.now) c.args.typ.now (plain-Expr c.args.expr.now) c.args.walk.now c.annotate.new.self c.let_parts.new.walk c.wait_if.new.self c.in_ok-node.node
    c.in_ok-pattern.pattern c.in_ok-pattern.matched c.in_ok-pattern.seen c.in_ok-pattern.declares c.both.result c.in_ok-node.ensures.0 noted c.in_ok-pattern.ensures never c.wait_if.ensures

pub branches::if_let-returns : goal.branches::if_let-returns
branches::if_let-returns t c =
    let body = plain-Block c.args.body.now in
    let other = optional_of (option_map plain-Expr c.args.other.now) in
    let node = c.in_ok-node.node in
    let ways = subst (λ r. Tells plain_ways (both_ways c.args.site body other) (λ T w. ways_made T node w) ways_of_both c.tested.new.walk r c.ways.new.walk) c.in_ok-ways.ensures.0 c.ways.ensures in
    if_let_told c.args.span c.args.site (plain-Pattern c.args.pattern.now) (plain-Expr c.args.expr.now) body other c.args.walk.now c.node.new.self c.tested.new.walk c.ways.new.walk node
    c.in_ok-test.test c.in_ok-ways.test c.in_ok-test.first c.in_ok-ways.ways c.in_ok-ways.ends c.in_ok-tree.tree c.either-diverges.result c.value_seen.result c.in_ok-node.ensures.0 c.in_ok-node.ensures.1
    c.in_ok-test.ensures c.in_ok-ways.ensures.1 ways c.in_ok-tree.ensures c.either-diverges.ensures c.value_seen.ensures

-- ---- arms of the match over the forms

pub forms::expression-returns-in-Make : goal.forms::expression-returns-in-Make
forms::expression-returns-in-Make t c =
    let e = c.args.expr.now in
    let is = expression_by_node e ∙ ap (λ n. plain-ExprNode n e.span) c.in-Make.is ∙ expression_make e.span c.in-Make.name c.in-Make.fields
    ∙ ap (λ (l : List FieldExpr). plain.make e.span c.in-Make.name (field_expressions_of (map plain-FieldExpr l))) (sym c.as_slice-in-Make.ensures) in
    subst (λ (a : Expression). Tells plain-ExprOf (of_expression c.args.minus c.args.site a) value seen_of c.args.walk.now c.make_tree.result c.make_tree.new.walk) (sym is) c.make_tree.ensures

pub forms::expression-returns-in-Match : goal.forms::expression-returns-in-Match
forms::expression-returns-in-Match t c =
    let e = c.args.expr.now in
    let is = expression_by_node e ∙ ap (λ n. plain-ExprNode n e.span) c.in-Match.is ∙ expression_match e.span c.in-Match.expr c.in-Match.arms
    ∙ ap (λ (x : Expr). plain.match e.span (plain-Expr x) (arms_of (map plain-Arm c.in-Match.arms))) (sym c.get-in-Match.ensures)
    ∙ ap (λ (l : List Arm). plain.match e.span (plain-Expr c.get-in-Match.result.now) (arms_of (map plain-Arm l))) (sym c.as_slice-in-Match.ensures) in
    subst (λ (a : Expression). Tells plain-ExprOf (of_expression c.args.minus c.args.site a) value seen_of c.args.walk.now c.match_at.result c.match_at.new.walk) (sym is) c.match_at.ensures

pub forms::expression-returns-in-If : goal.forms::expression-returns-in-If
forms::expression-returns-in-If t c =
    let e = c.args.expr.now in
    let other = optional_of (option_map plain-Expr c.in-If.other) in
    let is = expression_by_node e ∙ ap (λ n. plain-ExprNode n e.span) c.in-If.is ∙ expression_if e.span c.in-If.condition c.in-If.body c.in-If.other
    ∙ ap (λ (x : Expr). plain.if e.span (plain-Expr x) (plain-Block c.in-If.body) other) (sym c.get-in-If.ensures)
    ∙ ap (λ (b : Block). plain.if e.span (plain-Expr c.get-in-If.result.now) (plain-Block b) other) (sym c.get-in-If-2.ensures) in
    subst (λ (a : Expression). Tells plain-ExprOf (of_expression c.args.minus c.args.site a) value seen_of c.args.walk.now c.if_at.result c.if_at.new.walk) (sym is) c.if_at.ensures

pub forms::expression-returns-in-IfLet : goal.forms::expression-returns-in-IfLet
forms::expression-returns-in-IfLet t c =
    let e = c.args.expr.now in
    let p = plain-Pattern c.in-IfLet.pattern in
    let other = optional_of (option_map plain-Expr c.in-IfLet.other) in
    let is = expression_by_node e ∙ ap (λ n. plain-ExprNode n e.span) c.in-IfLet.is ∙ expression_if_let e.span c.in-IfLet.pattern c.in-IfLet.expr c.in-IfLet.body c.in-IfLet.other
    ∙ ap (λ (x : Expr). plain.if_let e.span p (plain-Expr x) (plain-Block c.in-IfLet.body) other) (sym c.get-in-IfLet.ensures)
    ∙ ap (λ (b : Block). plain.if_let e.span p (plain-Expr c.get-in-IfLet.result.now) (plain-Block b) other) (sym c.get-in-IfLet-2.ensures) in
    subst (λ (a : Expression). Tells plain-ExprOf (of_expression c.args.minus c.args.site a) value seen_of c.args.walk.now c.if_let.result c.if_let.new.walk) (sym is) c.if_let.ensures
