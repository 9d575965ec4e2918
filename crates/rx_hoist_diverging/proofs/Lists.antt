-- Nothing behind a list, and turns of loops over the parts of a typed tree.
use Rattle.std.proofs.Common.{◌≡◌, ℕ, ◌+◌, ◌<◌, Bool, List, [], ◌∷◌, ◌++◌, map, Result, Ok, Err, OnOk, sym, ap, ◌∙◌, length, get_or, drop, append-nil}
use Rattle.std.proofs.lemmas.List.{append_assoc, at_drop_more}
use Rattle.std.specs.declared.alloc.AllocError.{AllocError}
use Rattle.rx_typed.specs.Tree.{Body, Exp, Pattern}
use Rattle.rx_typed.specs.declared.tree.Operand.{Operand}
use Rattle.rx_typed.specs.declared.tree.Arm.{Arm}
use Rattle.rx_typed.specs.declared.tree.Expr.{Expr}
use Rattle.rx_typed.specs.declared.tree.Form.{Form}
use Rattle.rx_typed.specs.declared.tree.Form.TheVariants as form
use Rattle.rx_typed.specs.declared.tree.Matched.{Matched}
use Rattle.rx_typed.specs.declared.tree.Pattern.{Pattern as PatternOf}
use Rattle.rx_typed.specs.declared.tree.Stmt.{Stmt}
use Rattle.rx_typed.specs.declared.tree.Stmt.TheVariants as stmt
use Rattle.rx_typed.specs.PlainTree.{plain-Expr, plain-Form, plain-Mark, plain-Matched, plain-Operand, plain-Arm, plain-Stmt, operands_of, arms_of, nested_of, form_lazily, form_block, form_choose, stmt_runs, stmt_lets}
use Rattle.rx_typed.proofs.Rules.{expr_by_form, operand_by_parts, arm_by_parts}
use Rattle.rx_hoist_diverging.specs.Diverging.{diverging, diverging_operands, diverging_matched, diverging_arms, diverging_body, diverging_let}

pub append_nothing : {A : Type 0} (xs : List A) → xs ≡ xs ++ []
append_nothing xs = sym (append-nil xs)

-- what is left of a list begins with its next element
pub next_of : {A B : Type 0} (f : List A → B) (xs : List A) (i : ℕ) (x : A) → i < length xs → x ≡ get_or xs i x → f (drop i xs) ≡ f (x ∷ drop (i + 1) xs)
next_of f xs i x less is = at_drop_more f xs i x less ∙ ap (λ y. f (y ∷ drop (i + 1) xs)) (sym is)

-- a turn of a loop that adds what the next element stands for
pub turned : {A B : Type 0} (f : List A → List B) (xs : List A) (i : ℕ) (x : A) (old new here all : List B) → i < length xs → x ≡ get_or xs i x
    → f (x ∷ drop (i + 1) xs) ≡ here ++ f (drop (i + 1) xs) → new ≡ old ++ here → old ++ f (drop i xs) ≡ all → new ++ f (drop (i + 1) xs) ≡ all
turned f xs i x old new here all less is split more done =
    ap (λ l. l ++ f (drop (i + 1) xs)) more ∙ append_assoc old here (f (drop (i + 1) xs)) ∙ ap (λ l. old ++ l) (sym split) ∙ ap (λ l. old ++ l) (sym (next_of f xs i x less is)) ∙ done

pub operands_more : (x : Operand) (xs : List Operand) → diverging_operands (operands_of (map plain-Operand (x ∷ xs))) ≡ diverging (plain-Expr x.value) ++ diverging_operands (operands_of (map plain-Operand xs))
operands_more x xs = ap (λ (q : ℕ × Exp). diverging q.1 ++ diverging_operands (operands_of (map plain-Operand xs))) (operand_by_parts x)

pub arms_more : (x : Arm) (xs : List Arm) → diverging_arms (arms_of (map plain-Arm (x ∷ xs))) ≡ diverging (plain-Expr x.body) ++ diverging_arms (arms_of (map plain-Arm xs))
arms_more x xs = ap (λ (q : Pattern × Exp). diverging q.1 ++ diverging_arms (arms_of (map plain-Arm xs))) (arm_by_parts x)

-- ---- one part behind another

pub on_more : (r : Result (Unit {0}) AllocError) (a b o x y z : List ℕ) → b ≡ o ++ x → x ++ y ≡ z → OnOk r (a ≡ b ++ y) → OnOk r (a ≡ o ++ z)
on_more (Ok u) a b o x y z e f h = h ∙ ap (λ l. l ++ y) e ∙ append_assoc o x y ∙ ap (λ l. o ++ l) f
on_more (Err v) a b o x y z e f h = tt

pub on_same : (r : Result (Unit {0}) AllocError) (a b z : List ℕ) → b ≡ z → OnOk r (a ≡ b) → OnOk r (a ≡ z)
on_same (Ok u) a b z e h = h ∙ e
on_same (Err v) a b z e h = tt

by_form : (e : Expr) (x : Form) → e.form ≡ x → diverging (plain-Expr e) ≡ diverging (plain-Form x (plain-Mark e.mark))
by_form e x f = ap diverging (expr_by_form e ∙ ap (λ y. plain-Form y (plain-Mark e.mark)) f)

pub lazily_is : (e : Expr) (b : Bool) (l r l' r' : Expr) → e.form ≡ form.Lazily b l r → l' ≡ l → r' ≡ r → diverging (plain-Expr l') ++ diverging (plain-Expr r') ≡ diverging (plain-Expr e)
lazily_is e b l r l' r' f g h =
    ap (λ x. diverging (plain-Expr x) ++ diverging (plain-Expr r')) g ∙ ap (λ x. diverging (plain-Expr l) ++ diverging (plain-Expr x)) h
    ∙ sym (by_form e (form.Lazily b l r) f ∙ ap diverging (form_lazily b l r (plain-Mark e.mark)))

pub block_is : (e : Expr) (ss ss' : List Stmt) (l l' : Expr) → e.form ≡ form.Block ss l → ss' ≡ ss → l' ≡ l → diverging_body (nested_of (map plain-Stmt ss') (plain-Expr l')) ≡ diverging (plain-Expr e)
block_is e ss ss' l l' f g h =
    ap (λ x. diverging_body (nested_of (map plain-Stmt x) (plain-Expr l'))) g ∙ ap (λ x. diverging_body (nested_of (map plain-Stmt ss) (plain-Expr x))) h
    ∙ sym (by_form e (form.Block ss l) f ∙ ap diverging (form_block ss l (plain-Mark e.mark)))

pub choose_is : (e : Expr) (s : Matched) (l l' : List Arm) → e.form ≡ form.Choose s l → l' ≡ l → diverging_matched (plain-Matched s) ++ diverging_arms (arms_of (map plain-Arm l')) ≡ diverging (plain-Expr e)
choose_is e s l l' f g =
    ap (λ x. diverging_matched (plain-Matched s) ++ diverging_arms (arms_of (map plain-Arm x))) g
    ∙ sym (by_form e (form.Choose s l) f ∙ ap diverging (form_choose s l (plain-Mark e.mark)))

-- ---- statements

pub runs_on : (r : Result (Unit {0}) AllocError) (new old : List ℕ) (s : Stmt) (e : Expr) (b : Body) → s ≡ stmt.Runs e → OnOk r (new ≡ old ++ diverging (plain-Expr e))
    → OnOk r (new ++ diverging_body b ≡ old ++ diverging_body (plain-Stmt s b))
runs_on (Ok u) new old s e b is h =
    ap (λ l. l ++ diverging_body b) h ∙ append_assoc old (diverging (plain-Expr e)) (diverging_body b)
    ∙ ap (λ l. old ++ l) (sym (ap (λ t. diverging_body (plain-Stmt t b)) is ∙ ap diverging_body (stmt_runs e b)))
runs_on (Err v) new old s e b is h = tt

pub lets_on : (r : Result (Unit {0}) AllocError) (new old : List ℕ) (s : Stmt) (n : ℕ) (p : PatternOf) (m : Matched) (b : Body) → s ≡ stmt.Lets n p m → OnOk r (new ≡ old ++ diverging_let n (plain-Matched m))
    → OnOk r (new ++ diverging_body b ≡ old ++ diverging_body (plain-Stmt s b))
lets_on (Ok u) new old s n p m b is h =
    ap (λ l. l ++ diverging_body b) h ∙ append_assoc old (diverging_let n (plain-Matched m)) (diverging_body b)
    ∙ ap (λ l. old ++ l) (sym (ap (λ t. diverging_body (plain-Stmt t b)) is ∙ ap diverging_body (stmt_lets n p m b)))
lets_on (Err v) new old s n p m b is h = tt
