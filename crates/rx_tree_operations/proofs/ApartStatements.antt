-- Statements of different forms are not equal apart from spans, nor lists of different lengths.
use Rattle.std.proofs.Common.{◌≡◌, Bool, false, IsTrue, List, [], ◌∷◌, ◌↔◌, Option, refl, ap, sym, ◌∙◌, map, option_map, length, suc}
use Rattle.rx_core.specs.declared.types.Span.{Span}
use Rattle.rx_tree.specs.declared.tree.Ident.{Ident}
use Rattle.rx_tree.specs.declared.tree.TypeText.{TypeText}
use Rattle.rx_tree.specs.declared.tree.Pattern.{Pattern}
use Rattle.rx_tree.specs.declared.tree.ExprNode.{ExprNode}
use Rattle.rx_tree.specs.declared.tree.StmtNode.{StmtNode, StmtNode-F, out-StmtNode, roll-StmtNode, roll-out-StmtNode, fold_out-StmtNode, map-StmtNode}
use Rattle.rx_tree.specs.declared.tree.Arm.{Arm}
use Rattle.rx_tree.specs.declared.tree.Block.{Block}
use Rattle.rx_tree.specs.declared.tree.Expr.{Expr}
use Rattle.rx_tree.specs.declared.tree.FieldExpr.{FieldExpr}
use Rattle.rx_tree.specs.declared.tree.Stmt.{Stmt}
use Rattle.rx_tree.specs.declared.tree.ExprNode.TheOpen as expression_form
use Rattle.rx_tree.specs.declared.tree.StmtNode.TheVariants as statement_node
use Rattle.rx_tree.specs.Plain as plain
use Rattle.rx_tree.specs.Plain.{TypeTree, PatternTree, Expression, Expressions, OptionalExpression, FieldExpressions, Arms, Body, Statement, Statements}
use Rattle.rx_tree.specs.PlainOf.{plain-TypeText, plain-Pattern, plain-Expr, plain-ExprNode, plain-Stmt, plain-StmtNode, plain-Arm, plain-FieldExpr, plain-Block, expressions_of, optional_of, field_expressions_of, arms_of, statements_of, expression_node_step, statement_node_step, arm_step, block_step, expression_step, field_expression_step, statement_step, statement_let, statement_eval}
use Rattle.rx_tree.specs.Erase.{erase_all, erase_fields, erase_arms, erase_statement, erase_statements}
use Rattle.rx_tree.proofs.Rules.{statement_by_node}

-- ---- lists in expressions

abbrev pub expressions_seen : List Expr → Expressions
expressions_seen xs = erase_all (expressions_of (map plain-Expr xs))

expressions_length : (xs ys : List Expr) → expressions_seen xs ≡ expressions_seen ys → length xs ≡ length ys
expressions_length [] [] e = refl
expressions_length [] (y ∷ ys) e = cc
expressions_length (x ∷ xs) [] e = cc
expressions_length (x ∷ xs) (y ∷ ys) e = let r : expressions_seen xs ≡ expressions_seen ys = cc in ap suc (expressions_length xs ys r)

pub expressions_lengths : (xs ys : List Expr) → (length xs ≡ length ys → ⊥) → IsTrue false ↔ (expressions_seen xs ≡ expressions_seen ys)
expressions_lengths xs ys h = (λ e. cc, λ e. absurd (h (expressions_length xs ys e)))

abbrev pub fields_seen : List FieldExpr → FieldExpressions
fields_seen xs = erase_fields (field_expressions_of (map plain-FieldExpr xs))

fields_length : (xs ys : List FieldExpr) → fields_seen xs ≡ fields_seen ys → length xs ≡ length ys
fields_length [] [] e = refl
fields_length [] (y ∷ ys) e = cc
fields_length (x ∷ xs) [] e = cc
fields_length (x ∷ xs) (y ∷ ys) e = let r : fields_seen xs ≡ fields_seen ys = cc in ap suc (fields_length xs ys r)

pub fields_lengths : (xs ys : List FieldExpr) → (length xs ≡ length ys → ⊥) → IsTrue false ↔ (fields_seen xs ≡ fields_seen ys)
fields_lengths xs ys h = (λ e. cc, λ e. absurd (h (fields_length xs ys e)))

abbrev pub arms_seen : List Arm → Arms
arms_seen xs = erase_arms (arms_of (map plain-Arm xs))

arms_length : (xs ys : List Arm) → arms_seen xs ≡ arms_seen ys → length xs ≡ length ys
arms_length [] [] e = refl
arms_length [] (y ∷ ys) e = cc
arms_length (x ∷ xs) [] e = cc
arms_length (x ∷ xs) (y ∷ ys) e = let r : arms_seen xs ≡ arms_seen ys = cc in ap suc (arms_length xs ys r)

pub arms_lengths : (xs ys : List Arm) → (length xs ≡ length ys → ⊥) → IsTrue false ↔ (arms_seen xs ≡ arms_seen ys)
arms_lengths xs ys h = (λ e. cc, λ e. absurd (h (arms_length xs ys e)))

-- ---- statements

abbrev LayerStmtNode : Type 0
LayerStmtNode = StmtNode-F ExprNode StmtNode Arm Block Expr FieldExpr Stmt

abbrev seen_statement : LayerStmtNode → Span → Statement
seen_statement x = statement_node_step (map-StmtNode ExprNode StmtNode Arm Block Expr FieldExpr Stmt (Span → Expression) (Span → Statement) (PatternTree × Expression) Body Expression (Ident × Expression) Statement plain-ExprNode plain-StmtNode plain-Arm plain-Block plain-Expr plain-FieldExpr plain-Stmt x)

seen_statement_is : (n : StmtNode) (s : Span) → plain-StmtNode n s ≡ seen_statement (out-StmtNode n) s
unfolding plain-ExprNode plain-StmtNode plain-Arm plain-Block plain-Expr plain-FieldExpr plain-Stmt
seen_statement_is n s = ap (λ (f : Span → Statement). f s) (fold_out-StmtNode (Span → Expression) (Span → Statement) (PatternTree × Expression) Body Expression (Ident × Expression) Statement expression_node_step statement_node_step arm_step block_step expression_step field_expression_step statement_step n)

abbrev statement_apart : Stmt → Stmt → Type 0
statement_apart one other = IsTrue false ↔ (erase_statement (plain-Stmt one) ≡ erase_statement (plain-Stmt other))

statement_apart_by : (t : Statement) (it : Stmt) → ((x : LayerStmtNode) → out-StmtNode it.node ≡ x → erase_statement t ≡ erase_statement (seen_statement x it.span) → ⊥) → IsTrue false ↔ (erase_statement t ≡ erase_statement (plain-Stmt it))
statement_apart_by t it f = (λ e. cc, λ e. absurd (f (out-StmtNode it.node) refl (e ∙ ap erase_statement (statement_by_node it ∙ seen_statement_is it.node it.span))))

statement_let_at : (s : Span) (y0 : PatternTree) (y1 : Option TypeTree) (y2 : OptionalExpression) (x : LayerStmtNode) (t : Span) → ((x0 : Pattern) (x1 : Option TypeText) (x2 : Option Expr) → x ≡ (expression_form.Let x0 x1 x2) → ⊥) → erase_statement (plain.Statement.let_statement s y0 y1 y2) ≡ erase_statement (seen_statement x t) → ⊥
statement_let_at s y0 y1 y2 (expression_form.Let x0 x1 x2) t h e = h x0 x1 x2 refl
statement_let_at s y0 y1 y2 _ t h e = cc

pub statement_let_apart : (one it : Stmt) (z0 : Pattern) (z1 : Option TypeText) (z2 : Option Expr) → one.node ≡ (statement_node.Let z0 z1 z2) → ((x0 : Pattern) (x1 : Option TypeText) (x2 : Option Expr) → it.node ≡ (statement_node.Let x0 x1 x2) → ⊥) → statement_apart one it
statement_let_apart one it z0 z1 z2 o h = rw (statement_by_node one, o, statement_let) (statement_apart_by (plain.Statement.let_statement one.span (plain-Pattern z0) (option_map plain-TypeText z1) (optional_of (option_map plain-Expr z2))) it (λ x o. statement_let_at one.span (plain-Pattern z0) (option_map plain-TypeText z1) (optional_of (option_map plain-Expr z2)) x it.span (λ x0 x1 x2 e. h x0 x1 x2 (sym (roll-out-StmtNode it.node) ∙ ap roll-StmtNode (o ∙ e) ∙ (statement_node.rolls-Let x0 x1 x2)))))

statement_eval_at : (s : Span) (y0 : Expression) (y1 : Bool) (x : LayerStmtNode) (t : Span) → ((x0 : Expr) (x1 : Bool) → x ≡ (expression_form.Eval x0 x1) → ⊥) → erase_statement (plain.Statement.expression_statement s y0 y1) ≡ erase_statement (seen_statement x t) → ⊥
statement_eval_at s y0 y1 (expression_form.Eval x0 x1) t h e = h x0 x1 refl
statement_eval_at s y0 y1 _ t h e = cc

pub statement_eval_apart : (one it : Stmt) (z0 : Expr) (z1 : Bool) → one.node ≡ (statement_node.Eval z0 z1) → ((x0 : Expr) (x1 : Bool) → it.node ≡ (statement_node.Eval x0 x1) → ⊥) → statement_apart one it
statement_eval_apart one it z0 z1 o h = rw (statement_by_node one, o, statement_eval) (statement_apart_by (plain.Statement.expression_statement one.span (plain-Expr z0) z1) it (λ x o. statement_eval_at one.span (plain-Expr z0) z1 x it.span (λ x0 x1 e. h x0 x1 (sym (roll-out-StmtNode it.node) ∙ ap roll-StmtNode (o ∙ e) ∙ (statement_node.rolls-Eval x0 x1)))))

abbrev pub statements_seen : List Stmt → Statements
statements_seen xs = erase_statements (statements_of (map plain-Stmt xs))

statements_length : (xs ys : List Stmt) → statements_seen xs ≡ statements_seen ys → length xs ≡ length ys
statements_length [] [] e = refl
statements_length [] (y ∷ ys) e = cc
statements_length (x ∷ xs) [] e = cc
statements_length (x ∷ xs) (y ∷ ys) e = let r : statements_seen xs ≡ statements_seen ys = cc in ap suc (statements_length xs ys r)

pub statements_lengths : (xs ys : List Stmt) → (length xs ≡ length ys → ⊥) → IsTrue false ↔ (statements_seen xs ≡ statements_seen ys)
statements_lengths xs ys h = (λ e. cc, λ e. absurd (h (statements_length xs ys e)))
