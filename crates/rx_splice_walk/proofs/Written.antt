-- Edits that are written one part after the other.
use Rattle.std.proofs.Common.{◌≡◌, ℕ, suc, ◌+◌, ◌<◌, ◌≤◌, List, [], ◌∷◌, ◌++◌, length, map, drop, get_or, Option, Some, None, option_map, Result, OnOk, refl, sym, ap, subst, ◌∙◌, arith, append_assoc}
use Rattle.std.specs.Prelude.{Bool, false}
use Rattle.std.proofs.Math.Seq.{drop-cons}
use Rattle.std.proofs.lemmas.List.{map-append, drop_all}
use Rattle.rx_core.specs.declared.types.Edit as text
use Rattle.rx_core.specs.declared.types.Span.{Span}
use Rattle.rx_tree.specs.declared.tree.Expr.{Expr}
use Rattle.rx_tree.specs.declared.tree.ExprNode.{ExprNode}
use Rattle.rx_tree.specs.declared.tree.Block.{Block, out-Block}
use Rattle.rx_tree.specs.declared.tree.Stmt.{Stmt}
use Rattle.rx_tree.specs.declared.tree.StmtNode.{StmtNode}
use Rattle.rx_tree.specs.declared.tree.FieldExpr.{FieldExpr}
use Rattle.rx_tree.specs.declared.tree.Arm.{Arm}
use Rattle.rx_tree.specs.Plain.{Expression, Statement}
use Rattle.rx_tree.specs.PlainOf.{plain-Expr, plain-ExprNode, plain-Block, plain-Stmt, plain-StmtNode, plain-FieldExpr, plain-Arm, plain-Pattern, optional_of, optional_list_of, expressions_of, field_expressions_of, arms_of, statements_of}
use Rattle.rx_tree.proofs.Rules.{expression_by_node, statement_by_node, block_by_parts, field_expression_by_parts, arm_by_parts}
use Rattle.rx_resolve_names.specs.Meant.{Around}
use Rattle.rx_hoist_extraction.specs.Names.{Names, bound, bound_by, behind_all}
use Rattle.rx_splice_laws.specs.Edits.{Edit, written}
use Rattle.rx_splice_laws.specs.EditsOf.{EditsAt, is_short, edits, return_edits, all_edits, optional_edits, argument_edits, field_edits, arm_edits, body_edits, statement_edits, all_statement_edits}

-- what was there, with these edits behind it
abbrev pub With : List text.Edit → List Edit → List text.Edit → Type 0
With o es p = p ≡ o ++ map written es

pub nothing : (o : List text.Edit) → With o [] o
nothing [] = refl
nothing (e ∷ o) = ap (λ l. e ∷ l) (nothing o)

pub two : (o p q : List text.Edit) (es fs : List Edit) → With o es p → With p fs q → With o (es ++ fs) q
two o p q es fs a b =
    b ∙ ap (λ l. l ++ map written fs) a ∙ append_assoc o (map written es) (map written fs) ∙ ap (λ l. o ++ l) (sym (map-append written es fs))

pub three : (o p q r : List text.Edit) (es fs gs : List Edit) → With o es p → With p fs q → With q gs r → With o (es ++ (fs ++ gs)) r
three o p q r es fs gs a b c = two o p r es (fs ++ gs) a (two p q r fs gs b c)

-- the same edits, told otherwise
pub told : (o p : List text.Edit) (es fs : List Edit) → es ≡ fs → With o es p → With o fs p
told o p es fs e a = subst (λ x. With o x p) e a

pub on_ok_told : {E : Type 0} (r : Result (Unit {0}) E) (o p : List text.Edit) (es fs : List Edit) → es ≡ fs → OnOk r (With o es p) → OnOk r (With o fs p)
on_ok_told r o p es fs e a = subst (λ x. OnOk r (With o x p)) e a

-- ---- by the form of a node

pub at_node : {E : Type 0} (A : EditsAt) (own : Names) (ls : List Around) (b : Bool) (e : Expr) (n : ExprNode) (x : Expression) (r : Result (Unit {0}) E) (o p : List text.Edit)
    → e.node ≡ n → plain-ExprNode n e.span ≡ x → OnOk r (With o (edits A own ls b x) p) → OnOk r (With o (edits A own ls b (plain-Expr e)) p)
at_node A own ls b e n x r o p is form made =
    subst (λ y. OnOk r (With o (edits A own ls b y) p)) (sym (expression_by_node e ∙ ap (λ m. plain-ExprNode m e.span) is ∙ form)) made

pub at_node_done : (A : EditsAt) (own : Names) (ls : List Around) (b : Bool) (e : Expr) (n : ExprNode) (x : Expression) (o p : List text.Edit)
    → e.node ≡ n → plain-ExprNode n e.span ≡ x → With o (edits A own ls b x) p → With o (edits A own ls b (plain-Expr e)) p
at_node_done A own ls b e n x o p is form made =
    subst (λ y. With o (edits A own ls b y) p) (sym (expression_by_node e ∙ ap (λ m. plain-ExprNode m e.span) is ∙ form)) made

pub at_statement : {E : Type 0} (A : EditsAt) (own : Names) (ls : List Around) (a : Stmt) (n : StmtNode) (x : Statement) (r : Result (Unit {0}) E) (o p : List text.Edit)
    → a.node ≡ n → plain-StmtNode n a.span ≡ x → OnOk r (With o (statement_edits A own ls x) p) → OnOk r (With o (statement_edits A own ls (plain-Stmt a)) p)
at_statement A own ls a n x r o p is form made =
    subst (λ y. OnOk r (With o (statement_edits A own ls y) p)) (sym (statement_by_node a ∙ ap (λ m. plain-StmtNode m a.span) is ∙ form)) made

-- ---- where a part stands: the names and loops that it is given are these

pub expression_at : (A : EditsAt) (own names : Names) (ls around : List Around) (x y : Expr) (o p : List text.Edit) → x ≡ y → own ≡ names → ls ≡ around
    → With o (edits A own ls false (plain-Expr x)) p → With o (edits A names around false (plain-Expr y)) p
expression_at A own names ls around x y o p seen same there made =
    made
    ∙ ap (λ e. o ++ map written (edits A own ls false (plain-Expr e))) seen
    ∙ ap (λ n. o ++ map written (edits A n ls false (plain-Expr y))) same
    ∙ ap (λ k. o ++ map written (edits A names k false (plain-Expr y))) there

pub block_at : (A : EditsAt) (own names : Names) (ls around : List Around) (x y : Block) (o p : List text.Edit) → x ≡ y → own ≡ names → ls ≡ around
    → With o (body_edits A own ls (plain-Block x)) p → With o (body_edits A names around (plain-Block y)) p
block_at A own names ls around x y o p seen same there made =
    made
    ∙ ap (λ b. o ++ map written (body_edits A own ls (plain-Block b))) seen
    ∙ ap (λ n. o ++ map written (body_edits A n ls (plain-Block y))) same
    ∙ ap (λ k. o ++ map written (body_edits A names k (plain-Block y))) there

pub expressions_at : (A : EditsAt) (own : Names) (ls : List Around) (x y : List Expr) (o p : List text.Edit) → x ≡ y
    → With o (all_edits A own ls (expressions_of (map plain-Expr x))) p → With o (all_edits A own ls (expressions_of (map plain-Expr y))) p
expressions_at A own ls x y o p seen made = made ∙ ap (λ l. o ++ map written (all_edits A own ls (expressions_of (map plain-Expr l)))) seen

pub fields_at : (A : EditsAt) (own : Names) (ls : List Around) (x y : List FieldExpr) (o p : List text.Edit) → x ≡ y
    → With o (field_edits A own ls (field_expressions_of (map plain-FieldExpr x))) p → With o (field_edits A own ls (field_expressions_of (map plain-FieldExpr y))) p
fields_at A own ls x y o p seen made = made ∙ ap (λ l. o ++ map written (field_edits A own ls (field_expressions_of (map plain-FieldExpr l)))) seen

pub arms_at : (A : EditsAt) (own : Names) (ls : List Around) (x y : List Arm) (o p : List text.Edit) → x ≡ y
    → With o (arm_edits A own ls (arms_of (map plain-Arm x))) p → With o (arm_edits A own ls (arms_of (map plain-Arm y))) p
arms_at A own ls x y o p seen made = made ∙ ap (λ l. o ++ map written (arm_edits A own ls (arms_of (map plain-Arm l)))) seen

pub statements_at : (A : EditsAt) (own names : Names) (ls : List Around) (x y : List Stmt) (o p : List text.Edit) → x ≡ y → own ≡ names
    → With o (all_statement_edits A own ls (statements_of (map plain-Stmt x))) p → With o (all_statement_edits A names ls (statements_of (map plain-Stmt y))) p
statements_at A own names ls x y o p seen same made =
    made
    ∙ ap (λ l. o ++ map written (all_statement_edits A own ls (statements_of (map plain-Stmt l)))) seen
    ∙ ap (λ n. o ++ map written (all_statement_edits A n ls (statements_of (map plain-Stmt y)))) same

-- ---- parts that may be there

pub present_at : (A : EditsAt) (own : Names) (ls : List Around) (o : Option Expr) (x y : Expr) (p q : List text.Edit) → o ≡ Some x → y ≡ x
    → With p (edits A own ls false (plain-Expr y)) q → With p (optional_edits A own ls (optional_of (option_map plain-Expr o))) q
present_at A own ls o x y p q is seen made =
    made
    ∙ ap (λ e. p ++ map written (edits A own ls false (plain-Expr e))) seen
    ∙ ap (λ k. p ++ map written (optional_edits A own ls (optional_of (option_map plain-Expr k)))) (sym is)

pub absent_at : (A : EditsAt) (own : Names) (ls : List Around) (o : Option Expr) (p : List text.Edit) → o ≡ None
    → With p (optional_edits A own ls (optional_of (option_map plain-Expr o))) p
absent_at A own ls o p is = nothing p ∙ ap (λ k. p ++ map written (optional_edits A own ls (optional_of (option_map plain-Expr k)))) (sym is)

pub list_at : (A : EditsAt) (own : Names) (ls : List Around) (o : Option (List Expr)) (x y : List Expr) (p q : List text.Edit) → o ≡ Some x → y ≡ x
    → With p (all_edits A own ls (expressions_of (map plain-Expr y))) q → With p (argument_edits A own ls (optional_list_of (option_map (map plain-Expr) o))) q
list_at A own ls o x y p q is seen made =
    made
    ∙ ap (λ l. p ++ map written (all_edits A own ls (expressions_of (map plain-Expr l)))) seen
    ∙ ap (λ k. p ++ map written (argument_edits A own ls (optional_list_of (option_map (map plain-Expr) k)))) (sym is)

pub no_list_at : (A : EditsAt) (own : Names) (ls : List Around) (o : Option (List Expr)) (p : List text.Edit) → o ≡ None
    → With p (argument_edits A own ls (optional_list_of (option_map (map plain-Expr) o))) p
no_list_at A own ls o p is = nothing p ∙ ap (λ k. p ++ map written (argument_edits A own ls (optional_list_of (option_map (map plain-Expr) k)))) (sym is)

pub return_alone : (A : EditsAt) (own : Names) (ls : List Around) (s : Span) (o : Option Expr) (p q : List text.Edit) → o ≡ None
    → With p (A.at_return s) q → With p (return_edits A own ls s (optional_of (option_map plain-Expr o))) q
return_alone A own ls s o p q is made = made ∙ ap (λ k. p ++ map written (return_edits A own ls s (optional_of (option_map plain-Expr k)))) (sym is)

-- ---- lists: what is written, and what is left of the list behind it, are the whole

left : {X : Type 0} (l : List X) (i : ℕ) (x : X) → i < length l → x ≡ get_or l i x → drop i l ≡ x ∷ drop (i + 1) l
left l i x within is =
    let n : suc i ≡ i + 1 = omega arith in
    drop-cons l i x within ∙ ap (λ y. y ∷ drop (suc i) l) (sym is) ∙ ap (λ k. x ∷ drop k l) n

pub step : {X : Type 0} (all : List X → List Edit) (one : X → List Edit) → ((x : X) (xs : List X) → all (x ∷ xs) ≡ one x ++ all xs)
    → (l : List X) (i : ℕ) (x : X) (o p whole : List text.Edit) → i < length l → x ≡ get_or l i x → With o (one x) p
    → o ++ map written (all (drop i l)) ≡ whole → p ++ map written (all (drop (i + 1) l)) ≡ whole
step all one form l i x o p whole within is made before =
    let rest = drop (i + 1) l in
    ap (λ q. q ++ map written (all rest)) made
    ∙ append_assoc o (map written (one x)) (map written (all rest))
    ∙ ap (λ m. o ++ m) (sym (map-append written (one x) (all rest)))
    ∙ ap (λ es. o ++ map written es) (sym (form x rest))
    ∙ ap (λ k. o ++ map written (all k)) (sym (left l i x within is))
    ∙ before

pub ends : {X : Type 0} (all : List X → List Edit) → all [] ≡ [] → (l : List X) (i : ℕ) (o whole : List text.Edit) → length l ≤ i
    → o ++ map written (all (drop i l)) ≡ whole → o ≡ whole
ends all none l i o whole past before =
    nothing o ∙ ap (λ es. o ++ map written es) (sym none) ∙ ap (λ k. o ++ map written (all k)) (sym (drop_all i l past)) ∙ before

module _ (A : EditsAt) (own : Names) (ls : List Around) where
  abbrev pub of_expressions : List Expr → List Edit
  of_expressions l = all_edits A own ls (expressions_of (map plain-Expr l))

  pub expressions_step : (l : List Expr) (i : ℕ) (x : Expr) (o p whole : List text.Edit) → i < length l → x ≡ get_or l i x → With o (edits A own ls false (plain-Expr x)) p
      → o ++ map written (of_expressions (drop i l)) ≡ whole → p ++ map written (of_expressions (drop (i + 1) l)) ≡ whole
  expressions_step = step of_expressions (λ x. edits A own ls false (plain-Expr x)) (λ x xs. refl)

  pub expressions_end : (l : List Expr) (i : ℕ) (o whole : List text.Edit) → length l ≤ i → o ++ map written (of_expressions (drop i l)) ≡ whole → o ≡ whole
  expressions_end = ends of_expressions refl

  abbrev pub of_fields : List FieldExpr → List Edit
  of_fields l = field_edits A own ls (field_expressions_of (map plain-FieldExpr l))

  abbrev pub of_field : FieldExpr → List Edit
  of_field f = edits A own ls (is_short f.field (plain-Expr f.value)) (plain-Expr f.value)

  field_first : (f : FieldExpr) (l : List FieldExpr) → of_fields (f ∷ l) ≡ of_field f ++ of_fields l
  field_first f l =
      ap (λ p. edits A own ls (is_short p.0 p.1) p.1 ++ of_fields l) (field_expression_by_parts f)

  pub fields_step : (l : List FieldExpr) (i : ℕ) (x : FieldExpr) (o p whole : List text.Edit) → i < length l → x ≡ get_or l i x → With o (of_field x) p
      → o ++ map written (of_fields (drop i l)) ≡ whole → p ++ map written (of_fields (drop (i + 1) l)) ≡ whole
  fields_step = step of_fields of_field field_first

  pub fields_end : (l : List FieldExpr) (i : ℕ) (o whole : List text.Edit) → length l ≤ i → o ++ map written (of_fields (drop i l)) ≡ whole → o ≡ whole
  fields_end = ends of_fields refl

  abbrev pub of_arms : List Arm → List Edit
  of_arms l = arm_edits A own ls (arms_of (map plain-Arm l))

  abbrev pub of_arm : Arm → List Edit
  of_arm a = edits A (bound (plain-Pattern a.pattern) ++ own) ls false (plain-Expr a.body)

  arm_first : (a : Arm) (l : List Arm) → of_arms (a ∷ l) ≡ of_arm a ++ of_arms l
  arm_first a l = ap (λ p. edits A (bound p.0 ++ own) ls false p.1 ++ of_arms l) (arm_by_parts a)

  pub arms_step : (l : List Arm) (i : ℕ) (x : Arm) (o p whole : List text.Edit) → i < length l → x ≡ get_or l i x → With o (of_arm x) p
      → o ++ map written (of_arms (drop i l)) ≡ whole → p ++ map written (of_arms (drop (i + 1) l)) ≡ whole
  arms_step = step of_arms of_arm arm_first

  pub arms_end : (l : List Arm) (i : ℕ) (o whole : List text.Edit) → length l ≤ i → o ++ map written (of_arms (drop i l)) ≡ whole → o ≡ whole
  arms_end = ends of_arms refl

-- ---- statements, behind which their names are bound

module _ (A : EditsAt) (ls : List Around) where
  abbrev pub of_statements : Names → List Stmt → List Edit
  of_statements own l = all_statement_edits A own ls (statements_of (map plain-Stmt l))

  pub statements_step : (own names : Names) (l : List Stmt) (i : ℕ) (x : Stmt) (o p whole : List text.Edit) → i < length l → x ≡ get_or l i x
      → With o (statement_edits A own ls (plain-Stmt x)) p → names ≡ bound_by (plain-Stmt x) ++ own
      → o ++ map written (of_statements own (drop i l)) ≡ whole → p ++ map written (of_statements names (drop (i + 1) l)) ≡ whole
  statements_step own names l i x o p whole within is made behind before =
      let one = statement_edits A own ls (plain-Stmt x) in
      let rest = of_statements (bound_by (plain-Stmt x) ++ own) (drop (i + 1) l) in
      ap (λ n. p ++ map written (of_statements n (drop (i + 1) l))) behind
      ∙ ap (λ q. q ++ map written rest) made
      ∙ append_assoc o (map written one) (map written rest)
      ∙ ap (λ m. o ++ m) (sym (map-append written one rest))
      ∙ ap (λ k. o ++ map written (of_statements own k)) (sym (left l i x within is))
      ∙ before

  pub statements_end : (own : Names) (l : List Stmt) (i : ℕ) (o whole : List text.Edit) → length l ≤ i → o ++ map written (of_statements own (drop i l)) ≡ whole → o ≡ whole
  statements_end own = ends (of_statements own) refl

-- the names behind those that are left
pub names_step : (own names all : Names) (l : List Stmt) (i : ℕ) (x : Stmt) → i < length l → x ≡ get_or l i x → names ≡ bound_by (plain-Stmt x) ++ own
    → behind_all own (statements_of (map plain-Stmt (drop i l))) ≡ all → behind_all names (statements_of (map plain-Stmt (drop (i + 1) l))) ≡ all
names_step own names all l i x within is behind before =
    ap (λ n. behind_all n (statements_of (map plain-Stmt (drop (i + 1) l)))) behind
    ∙ ap (λ k. behind_all own (statements_of (map plain-Stmt k))) (sym (left l i x within is))
    ∙ before

pub names_end : (own all : Names) (l : List Stmt) (i : ℕ) → length l ≤ i → behind_all own (statements_of (map plain-Stmt (drop i l))) ≡ all → own ≡ all
names_end own all l i past before = ap (λ k. behind_all own (statements_of (map plain-Stmt k))) (sym (drop_all i l past)) ∙ before

-- ---- the operand of a `return`

pub return_written : (A : EditsAt) (own : Names) (ls : List Around) (s : Span) (v : Option Expr) (x y : Expr) (o p q r : List text.Edit) (before behind : List Edit)
    → v ≡ Some x → y ≡ x → ((es : List Edit) → A.at_return_with s es ≡ before ++ (es ++ behind))
    → With o before p → With p (edits A own ls false (plain-Expr y)) q → With q behind r
    → With o (return_edits A own ls s (optional_of (option_map plain-Expr v))) r
return_written A own ls s v x y o p q r before behind is seen whole a b c =
    let es = edits A own ls false (plain-Expr x) in
    told o r (before ++ (es ++ behind)) (A.at_return_with s es) (sym (whole es))
    (three o p q r before es behind a (b ∙ ap (λ e. p ++ map written (edits A own ls false (plain-Expr e))) seen) c)
    ∙ ap (λ k. o ++ map written (return_edits A own ls s (optional_of (option_map plain-Expr k)))) (sym is)

-- ---- a block

pub block_written : (A : EditsAt) (own names : Names) (ls : List Around) (b : Block) (o p q : List text.Edit)
    → With o (all_statement_edits A own ls (statements_of (map plain-Stmt (out-Block b).stmts))) p
    → names ≡ behind_all own (statements_of (map plain-Stmt (out-Block b).stmts))
    → With p (optional_edits A names ls (optional_of (option_map plain-Expr (out-Block b).tail))) q
    → With o (body_edits A own ls (plain-Block b)) q
block_written A own names ls b o p q made behind ended =
    let ss = statements_of (map plain-Stmt (out-Block b).stmts) in
    let y = optional_of (option_map plain-Expr (out-Block b).tail) in
    two o p q (all_statement_edits A own ls ss) (optional_edits A (behind_all own ss) ls y) made (ended ∙ ap (λ n. p ++ map written (optional_edits A n ls y)) behind)
    ∙ ap (λ x. o ++ map written (body_edits A own ls x)) (sym (block_by_parts b))
