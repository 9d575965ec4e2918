-- An expression whose form is no `return` stands for none.
use Rattle.std.proofs.Common.{◌≡◌, ℕ, ◌==◌, Bool, true, false, if◌then◌else◌, refl, sym, ap, ◌∙◌, subst}
use Rattle.std.proofs.lemmas.Bool.{eq-eqb, ne_eqb}
use Rattle.rx_typed.specs.Tree as tree
use Rattle.rx_typed.specs.Tree.{Exp, read, borrow, share, build, unit, lazily, assign, update, call, input, print, block, choose, loop, jump, give, Scrutinee, Body, Pattern, mark_of}
use Rattle.rx_typed.specs.declared.tree.Form.{Form, Form-F, out-Form, roll-Form, roll-out-Form, fold_out-Form, map-Form}
use Rattle.rx_typed.specs.declared.tree.Form.TheOpen as open_form
use Rattle.rx_typed.specs.declared.tree.Form.TheVariants as form
use Rattle.rx_typed.specs.declared.tree.Matched.{Matched}
use Rattle.rx_typed.specs.declared.tree.Stmt.{Stmt}
use Rattle.rx_typed.specs.declared.tree.Arm.{Arm}
use Rattle.rx_typed.specs.declared.tree.Expr.{Expr}
use Rattle.rx_typed.specs.declared.tree.Operand.{Operand}
use Rattle.rx_typed.specs.PlainTree.{plain-Mark, plain-Form, plain-Matched, plain-Stmt, plain-Arm, plain-Expr, plain-Operand, form_step, matched_step, stmt_step, arm_step, expr_step, operand_step, form_give}
use Rattle.rx_typed.proofs.Rules.{expr_by_form}
use Rattle.rx_exits_plan.specs.Blocks.{written_tail}
use Rattle.rx_exits_tree.specs.Shapes.{gives_at}
use Rattle.rx_exits_tree.proofs.Shapes.{expr_mark}

abbrev pub IsNoGive : Exp → Type 0
IsNoGive (give m e) = ⊥
IsNoGive _ = Unit {0}

abbrev seen : Form-F Form Matched Stmt Arm Expr Operand → tree.Mark → Exp
seen x = form_step (map-Form Form Matched Stmt Arm Expr Operand (tree.Mark → Exp) Scrutinee (Body → Body) (Pattern × Exp) Exp (ℕ × Exp) plain-Form plain-Matched plain-Stmt plain-Arm plain-Expr plain-Operand x)

seen_is : (f : Form) (m : tree.Mark) → plain-Form f m ≡ seen (out-Form f) m
unfolding plain-Form plain-Matched plain-Stmt plain-Arm plain-Expr plain-Operand
seen_is f m = ap (λ (g : tree.Mark → Exp). g m) (fold_out-Form (tree.Mark → Exp) Scrutinee (Body → Body) (Pattern × Exp) Exp (ℕ × Exp) form_step matched_step stmt_step arm_step expr_step operand_step f)

rolled : (e : Expr) → roll-Form (open_form.Give e) ≡ form.Give e
rolled e = form.rolls-Give e

layer_gives : (f : Form) (m : tree.Mark) → ((e : Expr) → f ≡ form.Give e → ⊥) → (x : Form-F Form Matched Stmt Arm Expr Operand) → out-Form f ≡ x → IsNoGive (seen x m)
layer_gives f m not (open_form.Read v p) is = tt
layer_gives f m not (open_form.Borrow k p) is = tt
layer_gives f m not (open_form.Share e) is = tt
layer_gives f m not (open_form.Build w es) is = tt
layer_gives f m not open_form.Unit is = tt
layer_gives f m not (open_form.Lazily b x y) is = tt
layer_gives f m not (open_form.Assign p e) is = tt
layer_gives f m not (open_form.Update o p e) is = tt
layer_gives f m not (open_form.Call g es) is = tt
layer_gives f m not open_form.Input is = tt
layer_gives f m not (open_form.Print e) is = tt
layer_gives f m not (open_form.Block ss e) is = tt
layer_gives f m not (open_form.Choose s l) is = tt
layer_gives f m not (open_form.Loop l e) is = tt
layer_gives f m not (open_form.Jump l k) is = tt
layer_gives f m not (open_form.Give e) is = not e (sym (roll-out-Form f) ∙ ap roll-Form is ∙ rolled e)

gives_none : (e : Expr) → ((i : Expr) → e.form ≡ form.Give i → ⊥) → IsNoGive (plain-Expr e)
gives_none e not = subst IsNoGive (sym (expr_by_form e ∙ seen_is e.form (plain-Mark e.mark))) (layer_gives e.form (plain-Mark e.mark) not (out-Form e.form) refl)

written_kept : (n : ℕ) (e : Exp) → IsNoGive e → written_tail n e ≡ e
written_kept n (read m v p) h = refl
written_kept n (borrow m k p) h = refl
written_kept n (share m e) h = refl
written_kept n (build m w es) h = refl
written_kept n (unit m) h = refl
written_kept n (lazily m b e f) h = refl
written_kept n (assign m p e) h = refl
written_kept n (update m o p e) h = refl
written_kept n (call m f es) h = refl
written_kept n (input m) h = refl
written_kept n (print m e) h = refl
written_kept n (block m b) h = refl
written_kept n (choose m s l) h = refl
written_kept n (loop m l e) h = refl
written_kept n (jump m l k) h = refl
written_kept n (give m e) h = absurd h

given_nowhere : (n : ℕ) (e : Exp) → IsNoGive e → gives_at n e ≡ false
given_nowhere n (read m v p) h = refl
given_nowhere n (borrow m k p) h = refl
given_nowhere n (share m e) h = refl
given_nowhere n (build m w es) h = refl
given_nowhere n (unit m) h = refl
given_nowhere n (lazily m b e f) h = refl
given_nowhere n (assign m p e) h = refl
given_nowhere n (update m o p e) h = refl
given_nowhere n (call m f es) h = refl
given_nowhere n (input m) h = refl
given_nowhere n (print m e) h = refl
given_nowhere n (block m b) h = refl
given_nowhere n (choose m s l) h = refl
given_nowhere n (loop m l e) h = refl
given_nowhere n (jump m l k) h = refl
given_nowhere n (give m e) h = absurd h

pub no_give_written : (n : ℕ) (e : Expr) → ((i : Expr) → e.form ≡ form.Give i → ⊥) → written_tail n (plain-Expr e) ≡ plain-Expr e
no_give_written n e not = written_kept n (plain-Expr e) (gives_none e not)

pub no_give_nowhere : (n : ℕ) (e : Expr) → ((i : Expr) → e.form ≡ form.Give i → ⊥) → gives_at n (plain-Expr e) ≡ false
no_give_nowhere n e not = given_nowhere n (plain-Expr e) (gives_none e not)

-- and one whose form is a `return` stands for that
given_as : (e i : Expr) → e.form ≡ form.Give i → plain-Expr e ≡ give (plain-Mark e.mark) (plain-Expr i)
given_as e i is = expr_by_form e ∙ ap (λ f. plain-Form f (plain-Mark e.mark)) is ∙ form_give i (plain-Mark e.mark)

pub given_here : (n : ℕ) (e i : Expr) → e.form ≡ form.Give i → gives_at n (plain-Expr e) ≡ (e.mark.node == n)
given_here n e i is = ap (gives_at n) (given_as e i is)

pub written_here : (n : ℕ) (e i : Expr) → e.form ≡ form.Give i → written_tail n (plain-Expr e) ≡ (if e.mark.node == n then plain-Expr i else give (plain-Mark e.mark) (plain-Expr i))
written_here n e i is = ap (written_tail n) (given_as e i is)

-- a value behind which the function ends again
pub given_same : (e : Expr) (v : Exp) (b : Bool) → b ≡ true → give (plain-Mark e.mark) v ≡ (if b then give (mark_of (plain-Expr e)) v else v)
given_same e v b it = ap (λ m. give m v) (sym (expr_mark e)) ∙ ap (λ (c : Bool). if c then give (mark_of (plain-Expr e)) v else v) (sym it)

pub written_at : (n : ℕ) (e i : Expr) → e.form ≡ form.Give i → e.mark.node ≡ n → written_tail n (plain-Expr e) ≡ plain-Expr i
written_at n e i is it = written_here n e i is ∙ ap (λ (c : Bool). if c then plain-Expr i else give (plain-Mark e.mark) (plain-Expr i)) (eq-eqb e.mark.node n it)

pub written_elsewhere : (n : ℕ) (e i : Expr) → e.form ≡ form.Give i → (e.mark.node ≡ n → ⊥) → written_tail n (plain-Expr e) ≡ plain-Expr e
written_elsewhere n e i is it =
    written_here n e i is ∙ ap (λ (c : Bool). if c then plain-Expr i else give (plain-Mark e.mark) (plain-Expr i)) (ne_eqb e.mark.node n it) ∙ sym (given_as e i is)
