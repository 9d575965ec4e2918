-- The plain trees of the code's statements, bodies and items: the span of a statement by cases on its layer, a body by its fields.
use Rattle.std.proofs.Common.{◌≡◌, ℕ, zero, suc, ◌+◌, ◌-◌, ◌<◌, nat_le, true, false, List, [], ◌∷◌, ◌++◌, length, map, drop, get_or, drop-cons, Option, Some, None, option_map, if◌then◌else◌, refl, ap, sym, ◌∙◌, arith, eq-eqb, ne_eqb}
use Rattle.std.specs.Prelude.{slice_get}
use Rattle.std.specs.Option.{is_some}
use Rattle.rx_core.specs.declared.types.Span.{Span}
use Rattle.rx_tree.specs.declared.tree.Ident.{Ident}
use Rattle.rx_tree.specs.declared.tree.Arm.{Arm}
use Rattle.rx_tree.specs.declared.tree.FieldExpr.{FieldExpr}
use Rattle.rx_tree.specs.declared.tree.Block.{Block, out-Block, roll-out-Block}
use Rattle.rx_tree.specs.declared.tree.Expr.{Expr}
use Rattle.rx_tree.specs.declared.tree.ExprNode.{ExprNode}
use Rattle.rx_tree.specs.declared.tree.Stmt.{Stmt}
use Rattle.rx_tree.specs.declared.tree.StmtNode.{StmtNode, StmtNode-F, out-StmtNode, fold_out-StmtNode, map-StmtNode}
use Rattle.rx_tree.specs.declared.tree.ExprNode.TheOpen as form
use Rattle.rx_tree.specs.declared.tree.Func.{Func}
use Rattle.rx_tree.specs.declared.tree.Item.{Item}
use Rattle.rx_tree.specs.declared.tree.ItemNode.TheVariants as item_node
use Rattle.rx_tree.specs.Plain as plain
use Rattle.rx_tree.specs.Plain.{PatternTree, Expression, OptionalExpression, Body, Statement}
use Rattle.rx_tree.specs.PlainOf.{plain-Expr, plain-ExprNode, plain-StmtNode, plain-Arm, plain-Block, plain-FieldExpr, plain-Stmt, expression_node_step, statement_node_step, arm_step, block_step, expression_step, field_expression_step, statement_step, plain-Item, plain-ItemNode, statement_is, block_is, statements_of, optional_of}
use Rattle.rx_tree.specs.Lists.{statement_span}
use Rattle.rx_tree.proofs.ListsLemmas.{listed-statements_of}
use Rattle.rx_tree.proofs.Rules.{block_by_parts}
use Rattle.rx_lex.specs.Tok.{Tok}
use Rattle.rx_tree.specs.Spans.{body_span}
use Rattle.rx_select.specs.declared.places.Places.{Places}
use Rattle.rx_select.specs.Parts.{end_of, tail_place, parts_of}
use Rattle.rx_select.specs.Search.{if_any, begins_with, ends_with, beginning, ending, between, run_of}

-- ---- statements

abbrev Layer : Type 0
Layer = StmtNode-F ExprNode StmtNode Arm Block Expr FieldExpr Stmt

abbrev seen : Layer → Span → Statement
seen x = statement_node_step (map-StmtNode ExprNode StmtNode Arm Block Expr FieldExpr Stmt (Span → Expression) (Span → Statement) (PatternTree × Expression) Body Expression (Ident × Expression) Statement plain-ExprNode plain-StmtNode plain-Arm plain-Block plain-Expr plain-FieldExpr plain-Stmt x)

seen_is : (n : StmtNode) (s : Span) → plain-StmtNode n s ≡ seen (out-StmtNode n) s
unfolding plain-ExprNode plain-StmtNode plain-Arm plain-Block plain-Expr plain-FieldExpr plain-Stmt
seen_is n s = ap (λ (f : Span → Statement). f s) (fold_out-StmtNode (Span → Expression) (Span → Statement) (PatternTree × Expression) Body Expression (Ident × Expression) Statement expression_node_step statement_node_step arm_step block_step expression_step field_expression_step statement_step n)

layer_span : (x : Layer) (s : Span) → statement_span (seen x s) ≡ s
layer_span (form.Let p t i) s = refl
layer_span (form.Eval e b) s = refl

pub span_is : (a : Stmt) → statement_span (plain-Stmt a) ≡ a.span
span_is a = ap statement_span (statement_is a.span a.node ∙ seen_is a.node a.span) ∙ layer_span (out-StmtNode a.node) a.span

-- ---- where the last statement ends

ends_last : (at n : ℕ) (ss : List Stmt) (a : Stmt) → suc n ≡ length ss → slice_get ss n ≡ Some a → end_of at (map plain-Stmt ss) ≡ a.span.end
ends_last at n [] a k e = absurd (cc)
ends_last at zero (x ∷ []) a k e =
    let q : x ≡ a = cc in
    ap (λ (s : Span). s.end) (span_is x) ∙ ap (λ (b : Stmt). b.span.end) q
ends_last at (suc n) (x ∷ []) a k e = absurd (cc)
ends_last at zero (x ∷ y ∷ ss) a k e = absurd (omega (arith, k))
ends_last at (suc n) (x ∷ y ∷ ss) a k e = ends_last (statement_span (plain-Stmt x)).end n (y ∷ ss) a (omega (arith, k)) e

pub ends_at_last : (at : ℕ) (ss : List Stmt) (a : Stmt) → slice_get ss (length ss - 1) ≡ Some a → end_of at (map plain-Stmt ss) ≡ a.span.end
ends_at_last at [] a e = absurd (cc)
ends_at_last at (x ∷ ss) a e = ends_last at (length (x ∷ ss) - 1) (x ∷ ss) a (omega arith) e

-- ---- blocks

abbrev pub spans : List Stmt → List Span
spans ss = map statement_span (map plain-Stmt ss)

pub block_is_parts : (b : Block) → parts_of (plain-Block b)
    ≡ spans (out-Block b).stmts ++ tail_place (end_of ((out-Block b).span.start + 1) (map plain-Stmt (out-Block b).stmts)) (optional_of (option_map plain-Expr (out-Block b).tail)) ((out-Block b).span.end - 1)
block_is_parts b =
    ap parts_of (block_by_parts b)
    ∙ ap (λ l. map statement_span l ++ tail_place (end_of ((out-Block b).span.start + 1) l) (optional_of (option_map plain-Expr (out-Block b).tail)) ((out-Block b).span.end - 1))
    (listed-statements_of (map plain-Stmt (out-Block b).stmts))

absent_place : (at close : ℕ) (o : Option Expr) → is_some o ≡ false → [] ≡ tail_place at (optional_of (option_map plain-Expr o)) close
absent_place at close None e = refl
absent_place at close (Some x) e = absurd (cc)

there_place : (at close : ℕ) (o : Option Expr) → is_some o ≡ true → record { start = at; end = close } ∷ [] ≡ tail_place at (optional_of (option_map plain-Expr o)) close
there_place at close None e = absurd (cc)
there_place at close (Some x) e = refl

pub no_tail : (b : Block) → is_some (out-Block b).tail ≡ false → spans (out-Block b).stmts ++ if_any None ≡ parts_of (plain-Block b)
no_tail b e =
    ap (λ l. spans (out-Block b).stmts ++ l) (absent_place (end_of ((out-Block b).span.start + 1) (map plain-Stmt (out-Block b).stmts)) ((out-Block b).span.end - 1) (out-Block b).tail e)
    ∙ sym (block_is_parts b)

pub with_tail : (b : Block) (at : ℕ) → is_some (out-Block b).tail ≡ true → at ≡ end_of ((out-Block b).span.start + 1) (map plain-Stmt (out-Block b).stmts)
    → spans (out-Block b).stmts ++ if_any (Some (record { start = at; end = (out-Block b).span.end - 1 })) ≡ parts_of (plain-Block b)
with_tail b at e q =
    ap (λ (n : ℕ). spans (out-Block b).stmts ++ (record { start = n; end = (out-Block b).span.end - 1 } ∷ [])) q
    ∙ ap (λ l. spans (out-Block b).stmts ++ l) (there_place (end_of ((out-Block b).span.start + 1) (map plain-Stmt (out-Block b).stmts)) ((out-Block b).span.end - 1) (out-Block b).tail e)
    ∙ sym (block_is_parts b)

-- ---- the statements of the code, and a tail behind them

one_on : (ss : List Stmt) (o : Option Span) (i : ℕ) (a : Stmt) → i < length ss → a ≡ get_or ss i a → spans (drop i ss) ++ if_any o ≡ a.span ∷ (spans (drop (i + 1) ss) ++ if_any o)
one_on ss o i a h e =
    let n : suc i ≡ i + 1 = omega arith in
    ap (λ l. spans l ++ if_any o) (drop-cons ss i a h) ∙ ap (λ (b : Stmt). statement_span (plain-Stmt b) ∷ (spans (drop (suc i) ss) ++ if_any o)) (sym e)
    ∙ ap (λ (s : Span). s ∷ (spans (drop (suc i) ss) ++ if_any o)) (span_is a) ∙ ap (λ j. a.span ∷ (spans (drop j ss) ++ if_any o)) n

pub begins_here : (g : Places) (i : ℕ) (ss : List Stmt) (o : Option Span) (a : Stmt) → i < length ss → a ≡ get_or ss i a → begins_with g a.span ≡ true → beginning g i (spans (drop i ss) ++ if_any o) ≡ Some i
begins_here g i ss o a h e q =
    ap (beginning g i) (one_on ss o i a h e) ∙ ap (λ b. if b then Some i else beginning g (i + 1) (spans (drop (i + 1) ss) ++ if_any o)) q

pub begins_later : (g : Places) (i : ℕ) (ss : List Stmt) (o : Option Span) (a : Stmt) → i < length ss → a ≡ get_or ss i a → begins_with g a.span ≡ false
    → beginning g i (spans (drop i ss) ++ if_any o) ≡ beginning g (i + 1) (spans (drop (i + 1) ss) ++ if_any o)
begins_later g i ss o a h e q =
    ap (beginning g i) (one_on ss o i a h e) ∙ ap (λ b. if b then Some i else beginning g (i + 1) (spans (drop (i + 1) ss) ++ if_any o)) q

pub ends_here : (g : Places) (i : ℕ) (ss : List Stmt) (o : Option Span) (a : Stmt) → i < length ss → a ≡ get_or ss i a → ends_with g a.span ≡ true → ending g i (spans (drop i ss) ++ if_any o) ≡ Some i
ends_here g i ss o a h e q =
    ap (ending g i) (one_on ss o i a h e) ∙ ap (λ b. if b then Some i else ending g (i + 1) (spans (drop (i + 1) ss) ++ if_any o)) q

pub ends_later : (g : Places) (i : ℕ) (ss : List Stmt) (o : Option Span) (a : Stmt) → i < length ss → a ≡ get_or ss i a → ends_with g a.span ≡ false
    → ending g i (spans (drop i ss) ++ if_any o) ≡ ending g (i + 1) (spans (drop (i + 1) ss) ++ if_any o)
ends_later g i ss o a h e q =
    ap (ending g i) (one_on ss o i a h e) ∙ ap (λ b. if b then Some i else ending g (i + 1) (spans (drop (i + 1) ss) ++ if_any o)) q

-- ---- the first and the last statement

-- the parts of a block, by a slice of its statements and the place of its tail
pub parts_are : (b : Block) (ss : List Stmt) (o : Option Span) → ss ≡ (out-Block b).stmts → spans (out-Block b).stmts ++ if_any o ≡ parts_of (plain-Block b) → spans ss ++ if_any o ≡ parts_of (plain-Block b)
parts_are b ss o e f = ap (λ l. spans l ++ if_any o) e ∙ f

pub no_first : (g : Places) (ps : List Span) → beginning g 0 ps ≡ None → run_of g ps ≡ None
no_first g ps e = ap (λ o. between o (ending g 0 ps)) e

pub no_last : (g : Places) (ps : List Span) → ending g 0 ps ≡ None → run_of g ps ≡ None
no_last g ps e = ap (λ o. between (beginning g 0 ps) o) e ∙ by (beginning g 0 ps)
  where
    by : (o : Option ℕ) → between o None ≡ None
    by None = refl
    by (Some i) = refl

pub first_and_last : (g : Places) (ps : List Span) (i j : ℕ) → beginning g 0 ps ≡ Some i → ending g 0 ps ≡ Some j → run_of g ps ≡ (if nat_le i j then Some (i, j) else None)
first_and_last g ps i j e f = ap (λ o. between o (ending g 0 ps)) e ∙ ap (between (Some i)) f
