-- The equations of plain trees, as the tactics take them.
use Rattle.std.proofs.Common.{◌≡◌, List, Option, Some, None, ap, sym, ◌∙◌, map, option_map}
use Rattle.rx_core.specs.declared.types.Span.{Span}
use Rattle.rx_tree.specs.declared.tree.Ident.{Ident}
use Rattle.rx_tree.specs.declared.tree.ExprNode.TheVariants as node
use Rattle.rx_tree.specs.declared.tree.StmtNode.TheVariants as stmt_node
use Rattle.rx_tree.specs.declared.tree.TypeText.{TypeText}
use Rattle.rx_tree.specs.declared.tree.Block.{Block, out-Block, roll-out-Block}
use Rattle.rx_tree.specs.declared.tree.Pattern.{Pattern}
use Rattle.rx_tree.specs.declared.tree.FieldPattern.{FieldPattern}
use Rattle.rx_tree.specs.declared.tree.Expr.{Expr}
use Rattle.rx_tree.specs.declared.tree.Stmt.{Stmt}
use Rattle.rx_tree.specs.declared.tree.Arm.{Arm}
use Rattle.rx_tree.specs.declared.tree.FieldExpr.{FieldExpr}
use Rattle.rx_tree.specs.Plain as plain
use Rattle.rx_tree.specs.Lists.{statements, tail}
use Rattle.rx_tree.proofs.ListsLemmas.{listed-statements_of}
use Rattle.rx_tree.specs.PlainOf.{plain-TypeText, plain-TypeNode, plain-Pattern, plain-PatternNode, plain-FieldPattern, plain-Expr, plain-ExprNode, plain-Stmt, plain-StmtNode, plain-Arm, plain-FieldExpr, plain-Block, expressions_of, statements_of, optional_of, type_is, pattern_is, field_pattern_is, expression_is, statement_is, arm_is, field_expression_is, block_is, type_kind, type_bool, type_tuple, type_ref, type_named, pattern_wild, pattern_bind, pattern_int, pattern_bool, pattern_tuple, pattern_variant, pattern_make, expression_int, expression_bool, expression_tuple, expression_var, expression_field, expression_part, expression_deref, expression_neg, expression_not, expression_borrow, expression_binary, expression_assign, expression_update, expression_call, expression_nextinput, expression_variant, expression_make, expression_print, expression_block, expression_if, expression_if_let, expression_match, expression_loop, expression_while, expression_while_let, expression_break, expression_continue, expression_return, statement_let, statement_eval}

pub type_by_node : (t : TypeText) → plain-TypeText t ≡ plain-TypeNode t.node t.span
type_by_node t = type_is t.span t.node

pub pattern_by_node : (p : Pattern) → plain-Pattern p ≡ plain-PatternNode p.node p.span
pattern_by_node p = pattern_is p.span p.node

pub field_pattern_by_parts : (f : FieldPattern) → plain-FieldPattern f ≡ (f.field, plain-Pattern f.pattern)
field_pattern_by_parts f = field_pattern_is f.field f.pattern

pub expression_by_node : (e : Expr) → plain-Expr e ≡ plain-ExprNode e.node e.span
expression_by_node e = expression_is e.span e.node

pub statement_by_node : (a : Stmt) → plain-Stmt a ≡ plain-StmtNode a.node a.span
statement_by_node a = statement_is a.span a.node

pub arm_by_parts : (a : Arm) → plain-Arm a ≡ (plain-Pattern a.pattern, plain-Expr a.body)
arm_by_parts a = arm_is a.pattern a.body

pub field_expression_by_parts : (f : FieldExpr) → plain-FieldExpr f ≡ (f.field, plain-Expr f.value)
field_expression_by_parts f = field_expression_is f.field f.value

pub block_by_parts : (b : Block) → plain-Block b ≡ plain.body (out-Block b).span (statements_of (map plain-Stmt (out-Block b).stmts)) (optional_of (option_map plain-Expr (out-Block b).tail))
block_by_parts b = ap plain-Block (sym (roll-out-Block b)) ∙ block_is (out-Block b).span (out-Block b).stmts (out-Block b).tail

pub block_statements : (b : Block) → statements (plain-Block b) ≡ map plain-Stmt (out-Block b).stmts
block_statements b = ap statements (block_by_parts b) ∙ listed-statements_of (map plain-Stmt (out-Block b).stmts)

pub block_tail : (b : Block) → tail (plain-Block b) ≡ optional_of (option_map plain-Expr (out-Block b).tail)
block_tail b = ap tail (block_by_parts b)

-- a form with an optional part, by whether it is there

pub variant_without : (s : Span) (a v : Ident) → plain-ExprNode (node.Variant a v None) s ≡ plain.variant s a v plain.no_list
variant_without s a v = expression_variant s a v None

pub variant_with : (s : Span) (a v : Ident) (l : List Expr) → plain-ExprNode (node.Variant a v (Some l)) s ≡ plain.variant s a v (plain.a_list (expressions_of (map plain-Expr l)))
variant_with s a v l = expression_variant s a v (Some l)

pub if_without : (s : Span) (c : Expr) (b : Block) → plain-ExprNode (node.If c b None) s ≡ plain.if s (plain-Expr c) (plain-Block b) plain.absent
if_without s c b = expression_if s c b None

pub if_with : (s : Span) (c : Expr) (b : Block) (e : Expr) → plain-ExprNode (node.If c b (Some e)) s ≡ plain.if s (plain-Expr c) (plain-Block b) (plain.present (plain-Expr e))
if_with s c b e = expression_if s c b (Some e)

pub if_let_without : (s : Span) (p : Pattern) (e : Expr) (b : Block) → plain-ExprNode (node.IfLet p e b None) s ≡ plain.if_let s (plain-Pattern p) (plain-Expr e) (plain-Block b) plain.absent
if_let_without s p e b = expression_if_let s p e b None

pub if_let_with : (s : Span) (p : Pattern) (e : Expr) (b : Block) (o : Expr) → plain-ExprNode (node.IfLet p e b (Some o)) s ≡ plain.if_let s (plain-Pattern p) (plain-Expr e) (plain-Block b) (plain.present (plain-Expr o))
if_let_with s p e b o = expression_if_let s p e b (Some o)

pub return_without : (s : Span) → plain-ExprNode (node.Return None) s ≡ plain.return s plain.absent
return_without s = expression_return s None

pub return_with : (s : Span) (e : Expr) → plain-ExprNode (node.Return (Some e)) s ≡ plain.return s (plain.present (plain-Expr e))
return_with s e = expression_return s (Some e)

pub let_alone : (s : Span) (p : Pattern) → plain-StmtNode (stmt_node.Let p None None) s ≡ plain.let_statement s (plain-Pattern p) None plain.absent
let_alone s p = statement_let s p None None

pub let_typed : (s : Span) (p : Pattern) (t : TypeText) → plain-StmtNode (stmt_node.Let p (Some t) None) s ≡ plain.let_statement s (plain-Pattern p) (Some (plain-TypeText t)) plain.absent
let_typed s p t = statement_let s p (Some t) None

pub let_valued : (s : Span) (p : Pattern) (e : Expr) → plain-StmtNode (stmt_node.Let p None (Some e)) s ≡ plain.let_statement s (plain-Pattern p) None (plain.present (plain-Expr e))
let_valued s p e = statement_let s p None (Some e)

pub let_whole : (s : Span) (p : Pattern) (t : TypeText) (e : Expr) → plain-StmtNode (stmt_node.Let p (Some t) (Some e)) s ≡ plain.let_statement s (plain-Pattern p) (Some (plain-TypeText t)) (plain.present (plain-Expr e))
let_whole s p t e = statement_let s p (Some t) (Some e)

pub let_without : (s : Span) (p : Pattern) (t : Option TypeText) → plain-StmtNode (stmt_node.Let p t None) s ≡ plain.let_statement s (plain-Pattern p) (option_map plain-TypeText t) plain.absent
let_without s p t = statement_let s p t None

pub let_with : (s : Span) (p : Pattern) (t : Option TypeText) (e : Expr) → plain-StmtNode (stmt_node.Let p t (Some e)) s ≡ plain.let_statement s (plain-Pattern p) (option_map plain-TypeText t) (plain.present (plain-Expr e))
let_with s p t e = statement_let s p t (Some e)

pub ruleset type_rules = (type_by_node, type_kind, type_bool, type_tuple, type_ref, type_named)

pub ruleset pattern_rules = (pattern_by_node, field_pattern_by_parts, pattern_wild, pattern_bind, pattern_int, pattern_bool, pattern_tuple, pattern_variant, pattern_make)

pub ruleset expression_rules = (expression_by_node, arm_by_parts, field_expression_by_parts, expression_int, expression_bool, expression_tuple, expression_var, expression_field, expression_part, expression_deref, expression_neg, expression_not, expression_borrow, expression_binary, expression_assign, expression_update, expression_call, expression_nextinput, expression_variant, expression_make, expression_print, expression_block, expression_if, expression_if_let, expression_match, expression_loop, expression_while, expression_while_let, expression_break, expression_continue, expression_return, variant_without, variant_with, if_without, if_with, if_let_without, if_let_with, return_without, return_with)

pub ruleset block_rules = (block_by_parts)

-- what stands in a body, as a list and a tail
pub ruleset body_rules = (block_statements, block_tail)

pub ruleset statement_rules = (statement_by_node, statement_let, statement_eval, let_without, let_with)

pub ruleset let_rules = (statement_by_node, statement_eval, let_alone, let_typed, let_valued, let_whole)
