-- Statements of the code and the statements of a body.
use Rattle.std.proofs.Common.{◌≡◌, ℕ, List, [], ◌∷◌, ◌++◌, map, Result, Ok, Err, IfOk, refl, sym, ap, ◌∙◌, subst}
use Rattle.std.proofs.lemmas.List.{append-nil, map-append}
use Rattle.std.specs.declared.alloc.AllocError.{AllocError}
use Rattle.rx_typed.specs.Tree as tree
use Rattle.rx_typed.specs.Tree.{Exp, Scrutinee, Body, Pattern, mark_of}
use Rattle.rx_typed.specs.declared.tree.Form.{Form, Form-F, fold_out-Form}
use Rattle.rx_typed.specs.declared.tree.Form.TheOpen as open_form
use Rattle.rx_typed.specs.declared.tree.Form.TheVariants as form
use Rattle.rx_typed.specs.declared.tree.Stmt.{Stmt, Stmt-F, fold_out-Stmt}
use Rattle.rx_typed.specs.declared.tree.Stmt.TheVariants as stmt
use Rattle.rx_typed.specs.declared.tree.Expr.{Expr}
use Rattle.rx_typed.specs.declared.tree.Matched.{Matched}
use Rattle.rx_typed.specs.declared.tree.Pattern as code
use Rattle.rx_typed.specs.PlainTree.{plain-Pattern, plain-Mark, plain-Form, plain-Matched, plain-Stmt, plain-Arm, plain-Expr, plain-Operand, form_step, matched_step, stmt_step, arm_step, expr_step, operand_step, nested_of, form_block, stmt_runs, stmt_declares, stmt_lets}
use Rattle.rx_typed.proofs.Rules.{expr_by_form}
use Rattle.rx_exits_plan.specs.Blocks.{Statement, does, begins, binds, statements, tail, before}
use Rattle.rx_exits_tree.specs.Shapes.{mark_at, first_of, stated, plain-Statement}

-- ---- by form

pub statement_runs : (e : Expr) → plain-Statement (stmt.Runs e) ≡ does (plain-Expr e)
statement_runs e = ap (λ b. first_of (statements b)) (stmt_runs e (tree.ends (tree.unit (mark_at 0))))

pub statement_declares : (n : ℕ) (xs : List ℕ) → plain-Statement (stmt.Declares n xs) ≡ begins n xs
statement_declares n xs = ap (λ b. first_of (statements b)) (stmt_declares n xs (tree.ends (tree.unit (mark_at 0))))

pub statement_lets : (n : ℕ) (p : code.Pattern) (s : Matched) → plain-Statement (stmt.Lets n p s) ≡ binds n (plain-Pattern p) (plain-Matched s)
statement_lets n p s = ap (λ b. first_of (statements b)) (stmt_lets n p s (tree.ends (tree.unit (mark_at 0))))

pub ruleset shape_rules = (statement_runs, statement_declares, statement_lets)

-- ---- statements in front of a body

layer_shape : (x : Stmt-F (tree.Mark → Exp) Scrutinee (Body → Body) (Pattern × Exp) Exp (ℕ × Exp)) (b : Body) → stmt_step x b ≡ before (stated (stmt_step x) ∷ []) b
layer_shape (open_form.Runs e) b = refl
layer_shape (open_form.Declares n xs) b = refl
layer_shape (open_form.Lets n p s) b = refl

shape_by : (g : Body → Body) (x : Stmt-F (tree.Mark → Exp) Scrutinee (Body → Body) (Pattern × Exp) Exp (ℕ × Exp)) → g ≡ stmt_step x → (b : Body) → g b ≡ before (stated g ∷ []) b
shape_by g x e b = subst (λ (h : Body → Body). h b ≡ before (stated h ∷ []) b) (sym e) (layer_shape x b)

pub stmt_before : (s : Stmt) (b : Body) → plain-Stmt s b ≡ before (plain-Statement s ∷ []) b
unfolding plain-Form plain-Matched plain-Stmt plain-Arm plain-Expr plain-Operand
stmt_before s b = shape_by _ _ (fold_out-Stmt (tree.Mark → Exp) Scrutinee (Body → Body) (Pattern × Exp) Exp (ℕ × Exp) form_step matched_step stmt_step arm_step expr_step operand_step s) b

one_before : (s : Statement) (ss : List Statement) (b : Body) → before (s ∷ []) (before ss b) ≡ before (s ∷ ss) b
one_before (does e) ss b = refl
one_before (begins n xs) ss b = refl
one_before (binds n p c) ss b = refl

pub nested_before : (ss : List Stmt) (e : Exp) → nested_of (map plain-Stmt ss) e ≡ before (map plain-Statement ss) (tree.ends e)
nested_before [] e = refl
nested_before (s ∷ ss) e =
    stmt_before s (nested_of (map plain-Stmt ss) e) ∙ ap (before (plain-Statement s ∷ [])) (nested_before ss e) ∙ one_before (plain-Statement s) (map plain-Statement ss) (tree.ends e)

pub statements_before : (ss : List Statement) (b : Body) → statements (before ss b) ≡ ss ++ statements b
statements_before [] b = refl
statements_before (does e ∷ ss) b = ap (λ l. does e ∷ l) (statements_before ss b)
statements_before (begins n xs ∷ ss) b = ap (λ l. begins n xs ∷ l) (statements_before ss b)
statements_before (binds n p c ∷ ss) b = ap (λ l. binds n p c ∷ l) (statements_before ss b)

pub tail_before : (ss : List Statement) (b : Body) → tail (before ss b) ≡ tail b
tail_before [] b = refl
tail_before (does e ∷ ss) b = tail_before ss b
tail_before (begins n xs ∷ ss) b = tail_before ss b
tail_before (binds n p c ∷ ss) b = tail_before ss b

pub before_both : (ss ts : List Statement) (b : Body) → before (ss ++ ts) b ≡ before ss (before ts b)
before_both [] ts b = refl
before_both (does e ∷ ss) ts b = ap (tree.runs e) (before_both ss ts b)
before_both (begins n xs ∷ ss) ts b = ap (tree.declares n xs) (before_both ss ts b)
before_both (binds n p c ∷ ss) ts b = ap (tree.lets n p c) (before_both ss ts b)

pub nested_statements : (ss : List Stmt) (e : Exp) → statements (nested_of (map plain-Stmt ss) e) ≡ map plain-Statement ss
nested_statements ss e = ap statements (nested_before ss e) ∙ statements_before (map plain-Statement ss) (tree.ends e) ∙ append-nil (map plain-Statement ss)

pub nested_tail : (ss : List Stmt) (e : Exp) → tail (nested_of (map plain-Stmt ss) e) ≡ e
nested_tail ss e = ap tail (nested_before ss e) ∙ tail_before (map plain-Statement ss) (tree.ends e)

-- ---- blocks

pub block_is : (m : tree.Mark) (ss : List Stmt) (e : Expr) → plain-Form (form.Block ss e) m ≡ tree.block m (before (map plain-Statement ss) (tree.ends (plain-Expr e)))
block_is m ss e = form_block ss e m ∙ ap (tree.block m) (nested_before ss (plain-Expr e))

pub ruleset block_rules = (expr_by_form, block_is)

-- ---- marks of nodes

layer_mark : (x : Form-F (tree.Mark → Exp) Scrutinee (Body → Body) (Pattern × Exp) Exp (ℕ × Exp)) (m : tree.Mark) → mark_of (form_step x m) ≡ m
layer_mark (open_form.Read v p) m = refl
layer_mark (open_form.Borrow k p) m = refl
layer_mark (open_form.Share e) m = refl
layer_mark (open_form.Build w es) m = refl
layer_mark open_form.Unit m = refl
layer_mark (open_form.Lazily b x y) m = refl
layer_mark (open_form.Assign p e) m = refl
layer_mark (open_form.Update o p e) m = refl
layer_mark (open_form.Call f es) m = refl
layer_mark open_form.Input m = refl
layer_mark (open_form.Print e) m = refl
layer_mark (open_form.Block ss e) m = refl
layer_mark (open_form.Choose s l) m = refl
layer_mark (open_form.Loop l e) m = refl
layer_mark (open_form.Jump l k) m = refl
layer_mark (open_form.Give e) m = refl

form_mark : (f : Form) (m : tree.Mark) → mark_of (plain-Form f m) ≡ m
unfolding plain-Form plain-Matched plain-Stmt plain-Arm plain-Expr plain-Operand
form_mark f m = ap (λ (g : tree.Mark → Exp). mark_of (g m)) (fold_out-Form (tree.Mark → Exp) Scrutinee (Body → Body) (Pattern × Exp) Exp (ℕ × Exp) form_step matched_step stmt_step arm_step expr_step operand_step f) ∙ layer_mark _ m

pub expr_mark : (e : Expr) → mark_of (plain-Expr e) ≡ plain-Mark e.mark
expr_mark e = ap mark_of (expr_by_form e) ∙ form_mark e.form (plain-Mark e.mark)

pub ruleset mark_rules = (expr_mark, append-nil)

-- an expression as a statement behind others
pub put_behind : (held : List Stmt) (e : Expr) (r : Result (List Stmt) AllocError) → IfOk r (λ all. all ≡ held ++ stmt.Runs e ∷ [])
    → IfOk r (λ it. map plain-Statement it ≡ map plain-Statement held ++ does (plain-Expr e) ∷ [])
put_behind held e (Ok l) h = ap (map plain-Statement) h ∙ map-append plain-Statement held (stmt.Runs e ∷ []) ∙ ap (λ s. map plain-Statement held ++ s ∷ []) (statement_runs e)
put_behind held e (Err f) h = h
