-- The edits of a run are written one part after the other.
use Rattle.std.proofs.Common.{◌≡◌, ℕ, false, List, [], ◌∷◌, ◌++◌, map, Option, Some, None, option_map, refl, sym, ap, subst, ◌∙◌}
use Rattle.std.specs.Borrow.{Bor}
use Rattle.std.specs.Option.{option_copied}
use Rattle.rx_core.specs.declared.types.Edit as text
use Rattle.rx_core.specs.declared.types.Span.{Span}
use Rattle.rx_tree.specs.declared.tree.Ident.{Ident}
use Rattle.rx_tree.specs.declared.tree.Arm.{Arm}
use Rattle.rx_tree.specs.declared.tree.Block.{Block}
use Rattle.rx_tree.specs.declared.tree.Expr.{Expr}
use Rattle.rx_tree.specs.declared.tree.ExprNode.{ExprNode}
use Rattle.rx_tree.specs.declared.tree.ExprNode.TheOpen as form
use Rattle.rx_tree.specs.declared.tree.FieldExpr.{FieldExpr}
use Rattle.rx_tree.specs.declared.tree.Stmt.{Stmt}
use Rattle.rx_tree.specs.declared.tree.StmtNode.{StmtNode, StmtNode-F, out-StmtNode, fold_out-StmtNode, map-StmtNode}
use Rattle.rx_tree.specs.Plain.{PatternTree, Expression, Body, Statement}
use Rattle.rx_tree.specs.PlainOf.{plain-Expr, plain-ExprNode, plain-StmtNode, plain-Arm, plain-Block, plain-FieldExpr, plain-Stmt, expression_node_step, statement_node_step, arm_step, block_step, expression_step, field_expression_step, statement_step, statement_is, optional_of, statements_of}
use Rattle.rx_tree.specs.Lists.{statement_span}
use Rattle.rx_lex.specs.Tok.{Tok}
use Rattle.rx_print_spelling.specs.Pieces.{Piece}
use Rattle.rx_resolve_names.specs.Meant.{Around}
use Rattle.rx_hoist_extraction.specs.Names.{Names, behind_all}
use Rattle.rx_hoist_extraction.specs.Run.{Parts, numbered}
use Rattle.rx_splice_laws.specs.Edits.{Edit, written}
use Rattle.rx_splice_laws.specs.EditsOf.{EditsAt, body_edits, edits, all_statement_edits, optional_edits}
use Rattle.rx_splice_laws.specs.RunEnd.{RunEnd}
use Rattle.rx_splice_laws.specs.SplicedText.{behind_statements, put_if_any, tail_start}
use Rattle.rx_splice_walk.proofs.Written.{With, nothing, two, three}
use Rattle.rx_splice_edits.specs.Ending.{IsPut}
use Rattle.rx_splice_edits.specs.RunEdits.{edits_by}
use Rattle.rx_splice_edits.proofs.Last.{last_of, none_empty}

-- ---- a text that may be there

pub put_text : (at : ℕ) (t : List ℕ) (ps : List Piece) (o p : List text.Edit) → IsPut (Some t) ps
    → p ≡ o ++ (record { span = record { start = at; end = at }; text = t }) ∷ [] → With o (put_if_any at ps) p
put_text at t [] o p i e = absurd i
put_text at t (q ∷ ps) o p i e = e ∙ ap (λ x. o ++ (record { span = record { start = at; end = at }; text = x }) ∷ []) i

pub put_none : (at : ℕ) (ps : List Piece) (o : List text.Edit) → IsPut None ps → With o (put_if_any at ps) o
put_none at [] o i = nothing o
put_none at (q ∷ ps) o i = absurd i

-- ---- a tail that may be there

pub tail_some : (A : EditsAt) (own : Names) (ls : List Around) (t : Option (Bor Expr)) (e : Bor Expr) (o p : List text.Edit) → t ≡ Some e
    → With o (edits A own ls false (plain-Expr e.now)) p → With o (optional_edits A own ls (optional_of (option_map plain-Expr (option_copied t)))) p
tail_some A own ls t e o p is made = subst (λ x. With o (optional_edits A own ls (optional_of (option_map plain-Expr (option_copied x)))) p) (sym is) made

pub tail_none : (A : EditsAt) (own : Names) (ls : List Around) (t : Option (Bor Expr)) (o : List text.Edit) → t ≡ None
    → With o (optional_edits A own ls (optional_of (option_map plain-Expr (option_copied t)))) o
tail_none A own ls t o is = subst (λ x. With o (optional_edits A own ls (optional_of (option_map plain-Expr (option_copied x)))) o) (sym is) (nothing o)

-- ---- where the statements end

abbrev Layer : Type 0
Layer = StmtNode-F ExprNode StmtNode Arm Block Expr FieldExpr Stmt

abbrev seen : Layer → Span → Statement
seen x = statement_node_step (map-StmtNode ExprNode StmtNode Arm Block Expr FieldExpr Stmt (Span → Expression) (Span → Statement) (PatternTree × Expression) Body Expression (Ident × Expression) Statement plain-ExprNode plain-StmtNode plain-Arm plain-Block plain-Expr plain-FieldExpr plain-Stmt x)

seen_is : (n : StmtNode) (s : Span) → plain-StmtNode n s ≡ seen (out-StmtNode n) s
unfolding plain-ExprNode plain-StmtNode plain-Arm plain-Block plain-Expr plain-FieldExpr plain-Stmt
seen_is n s = ap (λ (f : Span → Statement). f s) (fold_out-StmtNode (Span → Expression) (Span → Statement) (PatternTree × Expression) Body Expression (Ident × Expression) Statement expression_node_step statement_node_step arm_step block_step expression_step field_expression_step statement_step n)

layer_span : (x : Layer) (s : Span) → statement_span (seen x s) ≡ s
layer_span (form.Let p t i) s = refl
layer_span (form.Eval e b) s = refl

span_is : (a : Stmt) → statement_span (plain-Stmt a) ≡ a.span
span_is a = ap statement_span (statement_is a.span a.node ∙ seen_is a.node a.span) ∙ layer_span (out-StmtNode a.node) a.span

abbrev ends_by : ℕ → Option Stmt → ℕ
ends_by at None = at
ends_by at (Some a) = (statement_span (plain-Stmt a)).end

rest_end : (at : ℕ) (a : Stmt) (l : List Stmt) → behind_statements at (map plain-Stmt (a ∷ l)) ≡ ends_by 0 (last_of (a ∷ l))
rest_end at a [] = refl
rest_end at a (b ∷ l) = rest_end (statement_span (plain-Stmt a)).end b l

pub some_end : (at : ℕ) (l : List Stmt) (a : Stmt) → last_of l ≡ Some a → a.span.end ≡ behind_statements at (map plain-Stmt l)
some_end at [] a e = absurd (cc)
some_end at (b ∷ l) a e = sym (ap (λ (s : Span). s.end) (span_is a)) ∙ sym (ap (ends_by 0) e) ∙ sym (rest_end at b l)

pub no_end : (at : ℕ) (l : List Stmt) → last_of l ≡ None → at ≡ behind_statements at (map plain-Stmt l)
no_end at l e = ap (λ x. behind_statements at (map plain-Stmt x)) (sym (none_empty l e))

-- ---- the whole

pub all_written : (A : EditsAt) (all : List Tok) (r : Span) (labels : List (Option Ident)) (p : Parts) (e : RunEnd) (start : ℕ) (own own0 : Names) (ls : List Around) (l0 l1 l2 l3 l4 : List text.Edit)
    → l0 ≡ [] → own0 ≡ [] → ls ≡ numbered 1 labels
    → With l0 (all_statement_edits A own0 ls (statements_of p.statements)) l1
    → own ≡ behind_all own0 (statements_of p.statements)
    → start ≡ tail_start all r.start p.statements
    → With l1 (put_if_any start e.before) l2
    → With l2 (optional_edits A own ls p.tail) l3
    → With l3 (put_if_any r.end e.behind) l4
    → l4 ≡ map written (edits_by A all r labels p e)
all_written A all r labels p e start own own0 ls l0 l1 l2 l3 l4 n0 o0 a0 s o t b c d =
    let first : With [] (all_statement_edits A [] (numbered 1 labels) (statements_of p.statements)) l1 =
    subst (λ x. With [] (all_statement_edits A [] x (statements_of p.statements)) l1) a0
    (subst (λ x. With [] (all_statement_edits A x ls (statements_of p.statements)) l1) o0 (subst (λ x. With x (all_statement_edits A own0 ls (statements_of p.statements)) l1) n0 s)) in
    let names : own ≡ behind_all [] (statements_of p.statements) = o ∙ ap (λ x. behind_all x (statements_of p.statements)) o0 in
    let third : With l2 (optional_edits A (behind_all [] (statements_of p.statements)) (numbered 1 labels) p.tail) l3 =
    subst (λ x. With l2 (optional_edits A (behind_all [] (statements_of p.statements)) x p.tail) l3) a0 (subst (λ x. With l2 (optional_edits A x ls p.tail) l3) names c) in
    let second : With l1 (put_if_any (tail_start all r.start p.statements) e.before) l2 = subst (λ x. With l1 (put_if_any x e.before) l2) t b in
    two [] l1 l4 _ _ first (three l1 l2 l3 l4 _ _ _ second third d)

pub body_written : (A : EditsAt) (own : Names) (ls : List Around) (b : Body) (o p : List text.Edit) → o ≡ [] → own ≡ [] → ls ≡ [] → With o (body_edits A own ls b) p → p ≡ map written (body_edits A [] [] b)
body_written A own ls b o p n m k e =
    e ∙ ap (λ x. x ++ map written (body_edits A own ls b)) n ∙ ap (λ x. map written (body_edits A x ls b)) m ∙ ap (λ x. map written (body_edits A [] x b)) k
