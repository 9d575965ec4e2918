-- The mark of a typed expression is that of the tree that it stands for.
use Rattle.std.proofs.Common.{◌≡◌, ℕ, refl, ap, ◌∙◌}
use Rattle.rx_typed.specs.Tree as tree
use Rattle.rx_typed.specs.Tree.{Exp, Scrutinee, Body, Pattern, mark_of}
use Rattle.rx_typed.specs.declared.tree.Form.{Form, Form-F, fold_out-Form}
use Rattle.rx_typed.specs.declared.tree.Form.TheOpen as open_form
use Rattle.rx_typed.specs.declared.tree.Expr.{Expr}
use Rattle.rx_typed.specs.PlainTree.{plain-Mark, plain-Form, plain-Matched, plain-Stmt, plain-Arm, plain-Expr, plain-Operand, form_step, matched_step, stmt_step, arm_step, expr_step, operand_step}
use Rattle.rx_typed.proofs.Rules.{expr_by_form}

step_mark : (x : Form-F (tree.Mark → Exp) Scrutinee (Body → Body) (Pattern × Exp) Exp (ℕ × Exp)) (m : tree.Mark) → mark_of (form_step x m) ≡ m
step_mark (open_form.Read v p) m = refl
step_mark (open_form.Borrow k p) m = refl
step_mark (open_form.Share e) m = refl
step_mark (open_form.Build w es) m = refl
step_mark open_form.Unit m = refl
step_mark (open_form.Lazily b x y) m = refl
step_mark (open_form.Assign p e) m = refl
step_mark (open_form.Update o p e) m = refl
step_mark (open_form.Call f es) m = refl
step_mark open_form.Input m = refl
step_mark (open_form.Print e) m = refl
step_mark (open_form.Block ss e) m = refl
step_mark (open_form.Choose s l) m = refl
step_mark (open_form.Loop l e) m = refl
step_mark (open_form.Jump l k) m = refl
step_mark (open_form.Give e) m = refl

form_mark : (f : Form) (m : tree.Mark) → mark_of (plain-Form f m) ≡ m
unfolding plain-Form plain-Matched plain-Stmt plain-Arm plain-Expr plain-Operand
form_mark f m = ap (λ (g : tree.Mark → Exp). mark_of (g m)) (fold_out-Form (tree.Mark → Exp) Scrutinee (Body → Body) (Pattern × Exp) Exp (ℕ × Exp) form_step matched_step stmt_step arm_step expr_step operand_step f) ∙ step_mark _ m

pub expr_mark : (e : Expr) → mark_of (plain-Expr e) ≡ plain-Mark e.mark
expr_mark e = ap mark_of (expr_by_form e) ∙ form_mark e.form (plain-Mark e.mark)
