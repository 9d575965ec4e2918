-- The matches of an expression, by its form.
use Rattle.std.proofs.Common.{◌≡◌, ℕ, List, [], ◌∷◌, ◌++◌, map, Option, None, refl, sym, ap, ◌∙◌, subst, drop, length, get_or, ◌+◌, ◌<◌}
use Rattle.std.proofs.lemmas.List.{append_assoc, append-nil}
use Rattle.rx_typed.specs.Tree as tree
use Rattle.rx_typed.specs.Tree.{Exp, Scrutinee, Body, Pattern, mark_of}
use Rattle.rx_typed.specs.declared.tree.Form.{Form, Form-F, fold_out-Form}
use Rattle.rx_typed.specs.declared.tree.Form.TheOpen as open_form
use Rattle.rx_typed.specs.declared.tree.Stmt.{Stmt, Stmt-F, fold_out-Stmt}
use Rattle.rx_typed.specs.declared.tree.Expr.{Expr}
use Rattle.rx_typed.specs.PlainTree.{plain-Pattern, plain-Mark, plain-Form, plain-Matched, plain-Stmt, plain-Arm, plain-Expr, plain-Operand, form_step, matched_step, stmt_step, arm_step, expr_step, operand_step, nested_of}
use Rattle.rx_typed.specs.declared.tree.Arm.{Arm}
use Rattle.rx_typed.specs.declared.tree.Operand.{Operand}
use Rattle.rx_typed.specs.PlainTree.{arms_of, operands_of}
use Rattle.rx_cover.proofs.CellLemmas.{at_next}
use Rattle.rx_cover.specs.Choices.{choices_behind, choices_among}
use Rattle.rx_typed.proofs.Rules.{expr_by_form, arm_by_parts, operand_by_parts}
use Rattle.std.proofs.Common.{Bool, Result, Ok, Err, OnOk}
use Rattle.std.specs.declared.alloc.AllocError.{AllocError}
use Rattle.rx_typed.specs.Types.{Typ}
use Rattle.rx_typed.specs.declared.tree.Matched.{Matched}
use Rattle.rx_typed.specs.declared.tree.Pattern as code
use Rattle.rx_typed.specs.declared.tree.Form.TheVariants as form
use Rattle.rx_typed.specs.declared.tree.Stmt.TheVariants as stmt
use Rattle.rx_typed.specs.PlainTree.{form_lazily, form_block, form_choose, stmt_lets}
use Rattle.rx_cover.specs.declared.choices.Choice.{Choice}
use Rattle.rx_cover.specs.PlainChoices.{plain-Choice}
use Rattle.rx_cover.proofs.CellLemmas.{map_append}
use Rattle.rx_cover.specs.Choices as plain
use Rattle.rx_cover.specs.Choices.{choices, choices_of, choices_within, choices_before}
use Rattle.rx_cover.specs.PlainChoices.{stmt_choices, stmts_choices}

layer_mark : (x : Form-F (tree.Mark → Exp) Scrutinee (Body → Body) (Pattern × Exp) Exp (ℕ × Exp)) (m : tree.Mark) → mark_of (form_step x m) ≡ m
layer_mark (open_form.Read v p) m = refl
layer_mark (open_form.Borrow k p) m = refl
layer_mark (open_form.Share e) m = refl
layer_mark (open_form.Build w es) m = refl
layer_mark open_form.Unit m = refl
layer_mark (open_form.Lazily b x y) m = refl
layer_mark (open_form.Assign p e) m = refl
layer_mark (open_form.Update o p e) m = refl
layer_mark (open_form.Call f es) m = refl
layer_mark open_form.Input m = refl
layer_mark (open_form.Print e) m = refl
layer_mark (open_form.Block ss e) m = refl
layer_mark (open_form.Choose s l) m = refl
layer_mark (open_form.Loop l e) m = refl
layer_mark (open_form.Jump l k) m = refl
layer_mark (open_form.Give e) m = refl

form_mark : (f : Form) (m : tree.Mark) → mark_of (plain-Form f m) ≡ m
unfolding plain-Form plain-Matched plain-Stmt plain-Arm plain-Expr plain-Operand
form_mark f m = ap (λ (g : tree.Mark → Exp). mark_of (g m)) (fold_out-Form (tree.Mark → Exp) Scrutinee (Body → Body) (Pattern × Exp) Exp (ℕ × Exp) form_step matched_step stmt_step arm_step expr_step operand_step f) ∙ layer_mark _ m

pub expr_mark : (e : Expr) → mark_of (plain-Expr e) ≡ plain-Mark e.mark
expr_mark e = ap mark_of (expr_by_form e) ∙ form_mark e.form (plain-Mark e.mark)

-- what is said of a statement is said before what follows it
layer_split : (x : Stmt-F (tree.Mark → Exp) Scrutinee (Body → Body) (Pattern × Exp) Exp (ℕ × Exp)) (b : Body) → choices_within (stmt_step x b) ≡ stmt_choices (stmt_step x) ++ choices_within b
layer_split (open_form.Runs e) b = ap (λ l. l ++ choices_within b) (sym (append-nil (choices_of e)))
layer_split (open_form.Declares n xs) b = refl
layer_split (open_form.Lets n p s) b = ap (λ l. plain.choice_of n s (plain-Pattern p ∷ []) ∷ (l ++ choices_within b)) (sym (append-nil (choices_before s)))

split_by : (g : Body → Body) (x : Stmt-F (tree.Mark → Exp) Scrutinee (Body → Body) (Pattern × Exp) Exp (ℕ × Exp)) → g ≡ stmt_step x → (b : Body) → choices_within (g b) ≡ stmt_choices g ++ choices_within b
split_by g x e b = subst (λ (h : Body → Body). choices_within (h b) ≡ stmt_choices h ++ choices_within b) (sym e) (layer_split x b)

stmt_split : (s : Stmt) (b : Body) → choices_within (plain-Stmt s b) ≡ stmt_choices (plain-Stmt s) ++ choices_within b
unfolding plain-Form plain-Matched plain-Stmt plain-Arm plain-Expr plain-Operand
stmt_split s b = split_by _ _ (fold_out-Stmt (tree.Mark → Exp) Scrutinee (Body → Body) (Pattern × Exp) Exp (ℕ × Exp) form_step matched_step stmt_step arm_step expr_step operand_step s) b

pub block_split : (ss : List Stmt) (last : Exp) → choices_within (nested_of (map plain-Stmt ss) last) ≡ stmts_choices (map plain-Stmt ss) ++ choices_of last
block_split [] last = refl
block_split (s ∷ ss) last = stmt_split s (nested_of (map plain-Stmt ss) last) ∙ ap (λ l. stmt_choices (plain-Stmt s) ++ l) (block_split ss last) ∙ sym (append_assoc (stmt_choices (plain-Stmt s)) (stmts_choices (map plain-Stmt ss)) (choices_of last))

pub no_more_choices : (l : List plain.Choice) → l ++ [] ≡ l
no_more_choices l = append-nil l

pub ruleset choice_rules = (expr_mark, block_split, no_more_choices)

pub arms_next : (xs : List Arm) (i : ℕ) (x : Arm) → i < length xs → x ≡ get_or xs i x
    → choices_behind (arms_of (map plain-Arm (drop i xs))) ≡ choices_of (plain-Expr x.body) ++ choices_behind (arms_of (map plain-Arm (drop (i + 1) xs)))
arms_next xs i x l e = at_next (λ ys. choices_behind (arms_of (map plain-Arm ys))) xs i x l e ∙ rw (arm_by_parts x) refl

pub operands_next : (xs : List Operand) (i : ℕ) (x : Operand) → i < length xs → x ≡ get_or xs i x
    → choices_among (operands_of (map plain-Operand (drop i xs))) ≡ choices_of (plain-Expr x.value) ++ choices_among (operands_of (map plain-Operand (drop (i + 1) xs)))
operands_next xs i x l e = at_next (λ ys. choices_among (operands_of (map plain-Operand ys))) xs i x l e ∙ rw (operand_by_parts x) refl

pub found_more : (old mid here rest all : List plain.Choice) → mid ≡ old ++ here → old ++ (here ++ rest) ≡ all → mid ++ rest ≡ all
found_more old mid here rest all e f = ap (λ l. l ++ rest) e ∙ append_assoc old here rest ∙ f

pub on_more : (r : Result (Unit {0}) AllocError) (a b o x y z : List plain.Choice) → b ≡ o ++ x → x ++ y ≡ z → OnOk r (a ≡ b ++ y) → OnOk r (a ≡ o ++ z)
on_more (Ok u) a b o x y z e f h = h ∙ ap (λ l. l ++ y) e ∙ append_assoc o x y ∙ ap (λ l. o ++ l) f
on_more (Err v) a b o x y z e f h = tt

pub joined_more : (b2 b1 o x y : List plain.Choice) → b1 ≡ o ++ x → b2 ≡ b1 ++ y → b2 ≡ o ++ (x ++ y)
joined_more b2 b1 o x y e f = f ∙ ap (λ l. l ++ y) e ∙ append_assoc o x y

pub lazily_is : (n : ℕ) (e : Expr) (b : Bool) (l r l' r' : Expr) → e.form ≡ form.Lazily b l r → l' ≡ l → r' ≡ r → choices_of (plain-Expr l') ++ choices_of (plain-Expr r') ≡ choices n (plain-Expr e)
lazily_is n e b l r l' r' f g h =
    ap (λ x. choices_of (plain-Expr x) ++ choices_of (plain-Expr r')) g ∙ ap (λ x. choices_of (plain-Expr l) ++ choices_of (plain-Expr x)) h
    ∙ sym (ap (choices n) (expr_by_form e ∙ ap (λ x. plain-Form x (plain-Mark e.mark)) f ∙ form_lazily b l r (plain-Mark e.mark)))

pub block_is : (n : ℕ) (e : Expr) (ss ss' : List Stmt) (l l' : Expr) → e.form ≡ form.Block ss l → ss' ≡ ss → l' ≡ l → stmts_choices (map plain-Stmt ss') ++ choices_of (plain-Expr l') ≡ choices n (plain-Expr e)
block_is n e ss ss' l l' f g h =
    ap (λ x. stmts_choices (map plain-Stmt x) ++ choices_of (plain-Expr l')) g ∙ ap (λ x. stmts_choices (map plain-Stmt ss) ++ choices_of (plain-Expr x)) h
    ∙ sym (block_split ss (plain-Expr l))
    ∙ sym (ap (choices n) (expr_by_form e ∙ ap (λ x. plain-Form x (plain-Mark e.mark)) f ∙ form_block ss l (plain-Mark e.mark)))

pub choose_is : (n : ℕ) (e : Expr) (s : Matched) (l l1 l2 : List Arm) (o : Option Typ) → e.form ≡ form.Choose s l → o ≡ plain.scrutinee_typ (plain-Matched s) → l1 ≡ l → l2 ≡ l
    → ((record { node = n; typ = o; arms = plain.patterns_of (arms_of (map plain-Arm l1)) } ∷ []) ++ choices_before (plain-Matched s)) ++ choices_behind (arms_of (map plain-Arm l2)) ≡ choices n (plain-Expr e)
choose_is n e s l l1 l2 o f g h k =
    ap (λ t. ((record { node = n; typ = t; arms = plain.patterns_of (arms_of (map plain-Arm l1)) } ∷ []) ++ choices_before (plain-Matched s)) ++ choices_behind (arms_of (map plain-Arm l2))) g
    ∙ ap (λ x. ((plain.choice_of n (plain-Matched s) (plain.patterns_of (arms_of (map plain-Arm x))) ∷ []) ++ choices_before (plain-Matched s)) ++ choices_behind (arms_of (map plain-Arm l2))) h
    ∙ ap (λ x. ((plain.choice_of n (plain-Matched s) (plain.patterns_of (arms_of (map plain-Arm l))) ∷ []) ++ choices_before (plain-Matched s)) ++ choices_behind (arms_of (map plain-Arm x))) k
    ∙ sym (ap (choices n) (expr_by_form e ∙ ap (λ x. plain-Form x (plain-Mark e.mark)) f ∙ form_choose s l (plain-Mark e.mark)))

pub lets_is : (st : Stmt) (n : ℕ) (p : code.Pattern) (s : Matched) (o : Option Typ) → st ≡ stmt.Lets n p s → o ≡ plain.scrutinee_typ (plain-Matched s)
    → (record { node = n; typ = o; arms = plain-Pattern p ∷ [] } ∷ []) ++ choices_before (plain-Matched s) ≡ stmt_choices (plain-Stmt st)
lets_is st n p s o f g =
    ap (λ t. (record { node = n; typ = t; arms = plain-Pattern p ∷ [] } ∷ []) ++ choices_before (plain-Matched s)) g
    ∙ ap (λ l. plain.choice_of n (plain-Matched s) (plain-Pattern p ∷ []) ∷ l) (sym (append-nil (choices_before (plain-Matched s))))
    ∙ sym (ap (λ x. choices_within (plain-Stmt x leaf)) f ∙ ap choices_within (stmt_lets n p s leaf))
  where
    leaf : Body
    leaf = tree.ends (tree.unit (record { node = 0; typ = None }))

pub choice_behind : (old new : List Choice) (c : Choice) → new ≡ old ++ c ∷ [] → map plain-Choice new ≡ map plain-Choice old ++ plain-Choice c ∷ []
choice_behind old new c e = ap (map plain-Choice) e ∙ map_append plain-Choice old (c ∷ [])
