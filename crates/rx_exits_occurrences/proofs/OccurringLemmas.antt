-- The occurrences in the forms of expressions of the code.
use Rattle.std.proofs.Common.{◌≡◌, ℕ, Bool, List, [], ◌∷◌, ◌++◌, map, Option, if◌then◌else◌, Result, Ok, Err, OnOk, refl, sym, ap, ◌∙◌, subst}
use Rattle.std.proofs.lemmas.List.{append_assoc, append-nil}
use Rattle.std.specs.declared.alloc.AllocError.{AllocError}
use Rattle.rx_typed.specs.Tree as tree
use Rattle.rx_typed.specs.Tree.{Exp, Scrutinee, Body, Pattern}
use Rattle.rx_typed.specs.declared.tree.Form.TheOpen as open_form
use Rattle.rx_typed.specs.declared.tree.Form.TheVariants as form
use Rattle.rx_typed.specs.declared.tree.Form.{Form}
use Rattle.rx_typed.specs.declared.tree.Stmt.{Stmt, Stmt-F, fold_out-Stmt}
use Rattle.rx_typed.specs.declared.tree.Expr.{Expr}
use Rattle.rx_typed.specs.declared.tree.Arm.{Arm}
use Rattle.rx_typed.specs.declared.tree.Matched.{Matched}
use Rattle.rx_typed.specs.declared.tree.Operand.{Operand}
use Rattle.rx_typed.specs.PlainTree.{plain-Mark, plain-Pattern, plain-Form, plain-Matched, plain-Stmt, plain-Arm, plain-Expr, plain-Operand, form_step, matched_step, stmt_step, arm_step, expr_step, operand_step, nested_of, operands_of, arms_of, form_lazily, form_block, form_choose}
use Rattle.rx_typed.proofs.Rules.{expr_by_form, arm_by_parts, operand_by_parts}
use Rattle.rx_exits_plan.specs.Blocks.{Statement, bound, tail}
use Rattle.rx_exits_plan.specs.Occurrences.{Occurrence, all_declared, occurrences, occurrences_in, occurrences_matched, occurrences_armed, occurrences_of, in_statement, in_statements, in_value}
use Rattle.rx_exits_plan.specs.PlainSyntax.{plain-Statement, first_of, no_more}
use Rattle.rx_exits_plan.proofs.StatementLemmas.{body_tail}

layer_occurrences : (x : Stmt-F (tree.Mark → Exp) Scrutinee (Body → Body) (Pattern × Exp) Exp (ℕ × Exp)) (b : Body)
    → occurrences_of (stmt_step x b) ≡ in_statement (first_of (stmt_step x no_more)) ++ occurrences_of b
layer_occurrences (open_form.Runs e) b = refl
layer_occurrences (open_form.Declares n xs) b = refl
layer_occurrences (open_form.Lets n p s) b = sym (append_assoc (all_declared (bound (plain-Pattern p))) (occurrences_matched s) (occurrences_of b))

occurrences_by : (g : Body → Body) (x : Stmt-F (tree.Mark → Exp) Scrutinee (Body → Body) (Pattern × Exp) Exp (ℕ × Exp)) → g ≡ stmt_step x → (b : Body)
    → occurrences_of (g b) ≡ in_statement (first_of (g no_more)) ++ occurrences_of b
occurrences_by g x e b = subst (λ (h : Body → Body). occurrences_of (h b) ≡ in_statement (first_of (h no_more)) ++ occurrences_of b) (sym e) (layer_occurrences x b)

stmt_occurrences : (s : Stmt) (b : Body) → occurrences_of (plain-Stmt s b) ≡ in_statement (plain-Statement s) ++ occurrences_of b
unfolding plain-Form plain-Matched plain-Stmt plain-Arm plain-Expr plain-Operand
stmt_occurrences s b = occurrences_by _ _ (fold_out-Stmt (tree.Mark → Exp) Scrutinee (Body → Body) (Pattern × Exp) Exp (ℕ × Exp) form_step matched_step stmt_step arm_step expr_step operand_step s) b

pub body_occurrences : (ss : List Stmt) (e : Exp) → occurrences_of (nested_of (map plain-Stmt ss) e) ≡ in_statements (map plain-Statement ss) ++ occurrences e
body_occurrences [] e = refl
body_occurrences (s ∷ ss) e =
    stmt_occurrences s (nested_of (map plain-Stmt ss) e) ∙ ap (λ l. in_statement (plain-Statement s) ++ l) (body_occurrences ss e)
    ∙ sym (append_assoc (in_statement (plain-Statement s)) (in_statements (map plain-Statement ss)) (occurrences e))

pub no_more_occurrences : (l : List Occurrence) → l ++ [] ≡ l
no_more_occurrences l = append-nil l

pub occurrences_assoc : (a b c : List Occurrence) → (a ++ b) ++ c ≡ a ++ (b ++ c)
occurrences_assoc a b c = append_assoc a b c

pub ruleset occurring_rules = (body_occurrences, no_more_occurrences, occurrences_assoc)

-- ---- one part behind another

pub on_more : (r : Result (Unit {0}) AllocError) (a b o x y z : List Occurrence) → b ≡ o ++ x → x ++ y ≡ z → OnOk r (a ≡ b ++ y) → OnOk r (a ≡ o ++ z)
on_more (Ok u) a b o x y z e f h = h ∙ ap (λ l. l ++ y) e ∙ append_assoc o x y ∙ ap (λ l. o ++ l) f
on_more (Err v) a b o x y z e f h = tt

by_form : (e : Expr) (x : Form) → e.form ≡ x → occurrences (plain-Expr e) ≡ occurrences (plain-Form x (plain-Mark e.mark))
by_form e x f = ap occurrences (expr_by_form e ∙ ap (λ y. plain-Form y (plain-Mark e.mark)) f)

pub lazily_is : (e : Expr) (b : Bool) (l r l' r' : Expr) → e.form ≡ form.Lazily b l r → l' ≡ l → r' ≡ r → occurrences (plain-Expr l') ++ occurrences (plain-Expr r') ≡ occurrences (plain-Expr e)
lazily_is e b l r l' r' f g h =
    ap (λ x. occurrences (plain-Expr x) ++ occurrences (plain-Expr r')) g ∙ ap (λ x. occurrences (plain-Expr l) ++ occurrences (plain-Expr x)) h
    ∙ sym (by_form e (form.Lazily b l r) f ∙ ap occurrences (form_lazily b l r (plain-Mark e.mark)))

pub block_is : (e : Expr) (ss ss' : List Stmt) (l l' : Expr) → e.form ≡ form.Block ss l → ss' ≡ ss → l' ≡ l → in_statements (map plain-Statement ss') ++ occurrences (plain-Expr l') ≡ occurrences (plain-Expr e)
block_is e ss ss' l l' f g h =
    ap (λ x. in_statements (map plain-Statement x) ++ occurrences (plain-Expr l')) g ∙ ap (λ x. in_statements (map plain-Statement ss) ++ occurrences (plain-Expr x)) h
    ∙ sym (by_form e (form.Block ss l) f ∙ ap occurrences (form_block ss l (plain-Mark e.mark)) ∙ body_occurrences ss (plain-Expr l))

pub choose_is : (e : Expr) (s : Matched) (l l' : List Arm) → e.form ≡ form.Choose s l → l' ≡ l → occurrences_matched (plain-Matched s) ++ occurrences_armed (arms_of (map plain-Arm l')) ≡ occurrences (plain-Expr e)
choose_is e s l l' f g =
    ap (λ x. occurrences_matched (plain-Matched s) ++ occurrences_armed (arms_of (map plain-Arm x))) g
    ∙ sym (by_form e (form.Choose s l) f ∙ ap occurrences (form_choose s l (plain-Mark e.mark)))

-- ---- turns of loops

pub operands_more : (x : Operand) (xs : List Operand) → occurrences_in (operands_of (map plain-Operand (x ∷ xs))) ≡ occurrences (plain-Expr x.value) ++ occurrences_in (operands_of (map plain-Operand xs))
operands_more x xs = ap (λ (q : ℕ × Exp). occurrences q.1 ++ occurrences_in (operands_of (map plain-Operand xs))) (operand_by_parts x)

pub arms_more : (x : Arm) (xs : List Arm)
    → occurrences_armed (arms_of (map plain-Arm (x ∷ xs))) ≡ (all_declared (bound (plain-Arm x).0) ++ occurrences (plain-Arm x).1) ++ occurrences_armed (arms_of (map plain-Arm xs))
arms_more x xs = sym (append_assoc (all_declared (bound (plain-Arm x).0)) (occurrences (plain-Arm x).1) (occurrences_armed (arms_of (map plain-Arm xs))))

pub arm_is : (x : Arm) → all_declared (bound (plain-Pattern x.pattern)) ++ occurrences (plain-Expr x.body) ≡ all_declared (bound (plain-Arm x).0) ++ occurrences (plain-Arm x).1
arm_is x = ap (λ (q : Pattern × Exp). all_declared (bound q.0) ++ occurrences q.1) (sym (arm_by_parts x))

-- ---- of a run, and behind it

pub run_found : (new mid old : List Occurrence) (ss ss' : List Statement) (v v' : Option Exp) → old ≡ [] → mid ≡ old ++ in_statements ss' → ss' ≡ ss → new ≡ mid ++ in_value v' → v' ≡ v
    → new ≡ in_statements ss ++ in_value v
run_found new mid old ss ss' v v' none first same more last =
    more ∙ ap (λ l. l ++ in_value v') (first ∙ ap (λ l. l ++ in_statements ss') none ∙ ap in_statements same) ∙ ap (λ x. in_statements ss ++ in_value x) last

pub behind_found : (new mid old : List Occurrence) (ss ss' : List Statement) (b : Bool) (stmts : List Stmt) (e : Exp) → old ≡ [] → mid ≡ old ++ in_statements ss' → ss' ≡ ss
    → new ≡ mid ++ (if b then [] else occurrences e) → new ≡ in_statements ss ++ (if b then [] else occurrences (tail (nested_of (map plain-Stmt stmts) e)))
behind_found new mid old ss ss' b stmts e none first same more =
    more ∙ ap (λ (l : List Occurrence). l ++ (if b then [] else occurrences e)) (first ∙ ap (λ l. l ++ in_statements ss') none ∙ ap in_statements same)
    ∙ ap (λ (t : Exp). in_statements ss ++ (if b then [] else occurrences t)) (sym (body_tail stmts e))
