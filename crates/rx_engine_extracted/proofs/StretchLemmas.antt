-- First statements of two blocks, one by one; how many a block has, and what follows so many.
use Rattle.std.proofs.Common.{◌≡◌, refl, sym, ap, ◌∙◌, ℕ, zero, suc, ◌-◌, ◌<◌, ◌≤◌, arith, Bool, true, false, List, [], ◌∷◌, length, map, Option, Some, None, Result, Ok, Err, IfOk, subst}
use Rattle.std.specs.declared.alloc.AllocError.{AllocError}
use Rattle.rx_typed.specs.Tree as tree
use Rattle.rx_typed.specs.Tree.{Exp, Pattern, Scrutinee, Body}
use Rattle.rx_typed.specs.declared.tree.Stmt.{Stmt, Stmt-F, fold_out-Stmt}
use Rattle.rx_typed.specs.declared.tree.Stmt.TheVariants as stmt
use Rattle.rx_typed.specs.declared.tree.Pattern as pattern
use Rattle.rx_typed.specs.declared.tree.Matched as matched
use Rattle.rx_typed.specs.declared.tree.Form.TheOpen as open_form
use Rattle.rx_typed.specs.PlainTree.{plain-Pattern, stmt_lets, plain-Form, plain-Matched, plain-Stmt, plain-Arm, plain-Expr}
use Rattle.rx_typed.specs.PlainTree.{plain-Operand, form_step, matched_step, stmt_step, arm_step, expr_step, operand_step, nested_of}
use Rattle.rx_engine_simulation.specs.Sights.{Renaming}
use Rattle.rx_engine_simulation.specs.Jumps.{Jumping}
use Rattle.rx_engine_alike.specs.Likeness.{if_so, and_then, is_alike}
use Rattle.rx_engine_alike.specs.Patterns.{like_bindings}
use Rattle.rx_engine_alike.specs.Forms.{Between, like_exp, like_let, way_of_let}
use Rattle.rx_engine_extracted.specs.Stretches.{Passed, like_first, count_of, behind_first}
use Rattle.rx_engine_extracted.specs.PlainStretches.{lets_alike}

-- a step, and what is left
then_so : {A B : Type 0} (t : Bool) (a : A) (f : A → Option B) → if_so t (f a) ≡ and_then (if_so t (Some a)) f
then_so true a f = refl
then_so false a f = refl

then_of : {A B : Type 0} (t : Bool) (o : Option A) (f : A → Option B) → if_so t (and_then o f) ≡ and_then (if_so t o) f
then_of true o f = refl
then_of false o f = refl

pub ran_first : (C : Between) (J : Jumping) (n : ℕ) (R : Renaming) (e f : Exp) (b c : Body) (t : Bool) → t ≡ is_alike (like_exp C J R e f)
    → like_first C J (suc n) R (tree.runs e b) (tree.runs f c) ≡ and_then (if_so t (Some R)) (λ Ra. like_first C J n Ra b c)
ran_first C J n R e f b c t is = ap (λ (u : Bool). if_so u (like_first C J n R b c)) (sym is) ∙ then_so t R (λ Ra. like_first C J n Ra b c)

pub let_first : (C : Between) (J : Jumping) (n k m : ℕ) (R : Renaming) (q q' : Pattern) (s s' : Scrutinee) (b c : Body)
    → like_first C J (suc n) R (tree.lets k q s b) (tree.lets m q' s' c) ≡ and_then (lets_alike C J R q s q' s') (λ Ra. like_first C J n Ra b c)
let_first C J n k m R q q' s s' b c = then_of (is_alike (like_let C J R s q' s')) (like_bindings C.ways (way_of_let R s q' s') R q q') (λ Ra. like_first C J n Ra b c)

pub ruleset stretch_rules = (ran_first)

pub lets_so : (C : Between) (J : Jumping) (R Rn : Renaming) (st ot : Stmt) (k m : ℕ) (p q : pattern.Pattern) (s t : matched.Matched) (r : Result Bool AllocError) → st ≡ stmt.Lets k p s → ot
    ≡ stmt.Lets m q t
    → IfOk r (λ it. if_so it (Some Rn) ≡ lets_alike C J R (plain-Pattern p) (plain-Matched s) (plain-Pattern q) (plain-Matched t))
    → IfOk r (λ it. (n : ℕ) (b c : Body) → like_first C J (suc n) R (plain-Stmt st b) (plain-Stmt ot c) ≡ and_then (if_so it (Some Rn)) (λ Ra. like_first C J n Ra b c))
lets_so C J R Rn st ot k m p q s t (Ok it) e f h = λ n b c.
    ap (λ (x : Stmt). like_first C J (suc n) R (plain-Stmt x b) (plain-Stmt ot c)) e
    ∙ ap (λ (x : Stmt). like_first C J (suc n) R (plain-Stmt (stmt.Lets k p s) b) (plain-Stmt x c)) f
    ∙ ap (λ (x : Body). like_first C J (suc n) R x (plain-Stmt (stmt.Lets m q t) c)) (stmt_lets k p s b)
    ∙ ap (λ (x : Body). like_first C J (suc n) R (tree.lets k (plain-Pattern p) (plain-Matched s) b) x) (stmt_lets m q t c)
    ∙ let_first C J n k m R (plain-Pattern p) (plain-Pattern q) (plain-Matched s) (plain-Matched t) b c
    ∙ ap (λ (o : Option Renaming). and_then o (λ Ra. like_first C J n Ra b c)) (sym h)
lets_so C J R Rn st ot k m p q s t (Err v) e f h = tt

-- ---- the ends

pub ended_first : (C : Between) (J : Jumping) (n : ℕ) (R : Renaming) (b : Body) (e : Exp) → like_first C J (suc n) R b (tree.ends e) ≡ None
ended_first C J n R (tree.ends f) e = refl
ended_first C J n R (tree.runs f b) e = refl
ended_first C J n R (tree.declares s xs b) e = refl
ended_first C J n R (tree.lets s q c b) e = refl

pub ruleset next_rules = (ended_first)

-- ---- how many, and what follows

layer_count : (x : Stmt-F (tree.Mark → Exp) Scrutinee (Body → Body) (Pattern × Exp) Exp (ℕ × Exp)) (b : Body) → count_of (stmt_step x b) ≡ suc (count_of b)
layer_count (open_form.Runs e) b = refl
layer_count (open_form.Declares n xs) b = refl
layer_count (open_form.Lets n p s) b = refl

count_by : (g : Body → Body) (x : Stmt-F (tree.Mark → Exp) Scrutinee (Body → Body) (Pattern × Exp) Exp (ℕ × Exp)) → g ≡ stmt_step x → (b : Body) → count_of (g b) ≡ suc (count_of b)
count_by g x e b = subst (λ (h : Body → Body). count_of (h b) ≡ suc (count_of b)) (sym e) (layer_count x b)

pub count_stmt : (s : Stmt) (b : Body) → count_of (plain-Stmt s b) ≡ suc (count_of b)
unfolding plain-Form plain-Matched plain-Stmt plain-Arm plain-Expr plain-Operand
count_stmt s b = count_by _ _ (fold_out-Stmt (tree.Mark → Exp) Scrutinee (Body → Body) (Pattern × Exp) Exp (ℕ × Exp) form_step matched_step stmt_step arm_step expr_step operand_step s) b

pub count_block : (ss : List Stmt) (e : Exp) → count_of (nested_of (map plain-Stmt ss) e) ≡ length ss
count_block [] e = refl
count_block (s ∷ ss) e = count_stmt s (nested_of (map plain-Stmt ss) e) ∙ ap suc (count_block ss e)

pub ruleset count_rules = (count_block)

layer_behind : (n : ℕ) (x : Stmt-F (tree.Mark → Exp) Scrutinee (Body → Body) (Pattern × Exp) Exp (ℕ × Exp)) (b : Body) → behind_first (suc n) (stmt_step x b) ≡ behind_first n b
layer_behind n (open_form.Runs e) b = refl
layer_behind n (open_form.Declares m xs) b = refl
layer_behind n (open_form.Lets m p s) b = refl

behind_by : (n : ℕ) (g : Body → Body) (x : Stmt-F (tree.Mark → Exp) Scrutinee (Body → Body) (Pattern × Exp) Exp (ℕ × Exp)) → g ≡ stmt_step x → (b : Body) → behind_first (suc n) (g b)
    ≡ behind_first n b
behind_by n g x e b = subst (λ (h : Body → Body). behind_first (suc n) (h b) ≡ behind_first n b) (sym e) (layer_behind n x b)

pub behind_stmt : (n : ℕ) (s : Stmt) (b : Body) → behind_first (suc n) (plain-Stmt s b) ≡ behind_first n b
unfolding plain-Form plain-Matched plain-Stmt plain-Arm plain-Expr plain-Operand
behind_stmt n s b = behind_by n _ _ (fold_out-Stmt (tree.Mark → Exp) Scrutinee (Body → Body) (Pattern × Exp) Exp (ℕ × Exp) form_step matched_step stmt_step arm_step expr_step operand_step s) b

pub ruleset behind_rules = (behind_stmt)

-- ---- so many: one, and those left

pub next_so : {A : Type 0} (F G : ℕ → A) (left : ℕ) (x : A) → 0 < left → ((n : ℕ) → F (suc n) ≡ G n) → F left ≡ x → G (left - 1) ≡ x
next_so F G left x some step all = let more : suc (left - 1) ≡ left = omega arith in sym (step (left - 1)) ∙ ap F more ∙ all

pub last_so : {A : Type 0} (F : ℕ → A) (left : ℕ) (x y : A) → left ≤ 0 → F 0 ≡ y → F left ≡ x → y ≡ x
last_so F left x y none end all = let done : 0 ≡ left = omega arith in sym end ∙ ap F done ∙ all

pub stop_so : {A : Type 0} (F : ℕ → A) (left : ℕ) (x y : A) → 0 < left → ((n : ℕ) → F (suc n) ≡ y) → F left ≡ x → y ≡ x
stop_so F left x y some step all = let more : suc (left - 1) ≡ left = omega arith in sym (step (left - 1)) ∙ ap F more ∙ all
