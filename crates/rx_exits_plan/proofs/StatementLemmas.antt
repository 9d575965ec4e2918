-- The statements and the tail of a block of the code.
use Rattle.std.proofs.Common.{◌≡◌, ℕ, List, [], ◌∷◌, map, take, drop, refl, sym, ap, ◌∙◌, subst}
use Rattle.std.proofs.lemmas.List.{append-nil, take-map, drop-map}
use Rattle.rx_typed.specs.Tree as tree
use Rattle.rx_typed.specs.Tree.{Exp, Scrutinee, Body, Pattern}
use Rattle.rx_typed.specs.declared.tree.Stmt.{Stmt, Stmt-F, fold_out-Stmt}
use Rattle.rx_typed.specs.declared.tree.Form.TheOpen as open_form
use Rattle.rx_typed.specs.PlainTree.{plain-Form, plain-Matched, plain-Stmt, plain-Arm, plain-Expr, plain-Operand, form_step, matched_step, stmt_step, arm_step, expr_step, operand_step, nested_of}
use Rattle.rx_exits_plan.specs.Blocks.{statements, tail}
use Rattle.rx_exits_plan.specs.PlainSyntax.{plain-Statement, first_of, no_more}

pub ruleset statement_rules = (append-nil)

-- ---- a statement, in front of a body

layer_statements : (x : Stmt-F (tree.Mark → Exp) Scrutinee (Body → Body) (Pattern × Exp) Exp (ℕ × Exp)) (b : Body) → statements (stmt_step x b) ≡ first_of (stmt_step x no_more) ∷ statements b
layer_statements (open_form.Runs e) b = refl
layer_statements (open_form.Declares n xs) b = refl
layer_statements (open_form.Lets n p s) b = refl

layer_tail : (x : Stmt-F (tree.Mark → Exp) Scrutinee (Body → Body) (Pattern × Exp) Exp (ℕ × Exp)) (b : Body) → tail (stmt_step x b) ≡ tail b
layer_tail (open_form.Runs e) b = refl
layer_tail (open_form.Declares n xs) b = refl
layer_tail (open_form.Lets n p s) b = refl

statements_by : (g : Body → Body) (x : Stmt-F (tree.Mark → Exp) Scrutinee (Body → Body) (Pattern × Exp) Exp (ℕ × Exp)) → g ≡ stmt_step x → (b : Body) → statements (g b) ≡ first_of (g no_more) ∷ statements b
statements_by g x e b = subst (λ (h : Body → Body). statements (h b) ≡ first_of (h no_more) ∷ statements b) (sym e) (layer_statements x b)

tail_by : (g : Body → Body) (x : Stmt-F (tree.Mark → Exp) Scrutinee (Body → Body) (Pattern × Exp) Exp (ℕ × Exp)) → g ≡ stmt_step x → (b : Body) → tail (g b) ≡ tail b
tail_by g x e b = subst (λ (h : Body → Body). tail (h b) ≡ tail b) (sym e) (layer_tail x b)

stmt_statements : (s : Stmt) (b : Body) → statements (plain-Stmt s b) ≡ plain-Statement s ∷ statements b
unfolding plain-Form plain-Matched plain-Stmt plain-Arm plain-Expr plain-Operand
stmt_statements s b = statements_by _ _ (fold_out-Stmt (tree.Mark → Exp) Scrutinee (Body → Body) (Pattern × Exp) Exp (ℕ × Exp) form_step matched_step stmt_step arm_step expr_step operand_step s) b

stmt_tail : (s : Stmt) (b : Body) → tail (plain-Stmt s b) ≡ tail b
unfolding plain-Form plain-Matched plain-Stmt plain-Arm plain-Expr plain-Operand
stmt_tail s b = tail_by _ _ (fold_out-Stmt (tree.Mark → Exp) Scrutinee (Body → Body) (Pattern × Exp) Exp (ℕ × Exp) form_step matched_step stmt_step arm_step expr_step operand_step s) b

-- ---- a block

pub body_statements : (ss : List Stmt) (e : Exp) → statements (nested_of (map plain-Stmt ss) e) ≡ map plain-Statement ss
body_statements [] e = refl
body_statements (s ∷ ss) e = stmt_statements s (nested_of (map plain-Stmt ss) e) ∙ ap (λ l. plain-Statement s ∷ l) (body_statements ss e)

pub body_tail : (ss : List Stmt) (e : Exp) → tail (nested_of (map plain-Stmt ss) e) ≡ e
body_tail [] e = refl
body_tail (s ∷ ss) e = stmt_tail s (nested_of (map plain-Stmt ss) e) ∙ body_tail ss e

-- ---- its parts

pub front_part : (n : ℕ) (ss : List Stmt) (e : Exp) → map plain-Statement (take n ss) ≡ take n (statements (nested_of (map plain-Stmt ss) e))
front_part n ss e = sym (take-map plain-Statement n ss) ∙ ap (take n) (sym (body_statements ss e))

pub inner_part : (n m : ℕ) (ss : List Stmt) (e : Exp) → map plain-Statement (take m (drop n ss)) ≡ take m (drop n (statements (nested_of (map plain-Stmt ss) e)))
inner_part n m ss e =
    sym (take-map plain-Statement m (drop n ss)) ∙ ap (take m) (sym (drop-map plain-Statement n ss)) ∙ ap (λ l. take m (drop n l)) (sym (body_statements ss e))

pub back_part : (n m : ℕ) (ss : List Stmt) (e : Exp) → map plain-Statement (drop m (drop n ss)) ≡ drop m (drop n (statements (nested_of (map plain-Stmt ss) e)))
back_part n m ss e =
    sym (drop-map plain-Statement m (drop n ss)) ∙ ap (drop m) (sym (drop-map plain-Statement n ss)) ∙ ap (λ l. drop m (drop n l)) (sym (body_statements ss e))
