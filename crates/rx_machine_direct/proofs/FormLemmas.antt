-- Expressions by their forms.
use Rattle.std.proofs.Common.{◌≡◌, List, map, sym, ap, ◌∙◌}
use Rattle.rx_typed.specs.Tree.{unit, block, choose}
use Rattle.rx_typed.specs.declared.tree.Expr.{Expr}
use Rattle.rx_typed.specs.declared.tree.Stmt.{Stmt}
use Rattle.rx_typed.specs.declared.tree.Arm.{Arm}
use Rattle.rx_typed.specs.declared.tree.Matched.{Matched}
use Rattle.rx_typed.specs.declared.tree.Form.{Form}
use Rattle.rx_typed.specs.declared.tree.Form.TheVariants as form
use Rattle.rx_typed.specs.PlainTree.{plain-Mark, plain-Form, plain-Expr, plain-Stmt, plain-Matched, nested_of, form_unit, form_block, form_choose}
use Rattle.rx_typed.proofs.Rules.{expr_by_form}
use Rattle.rx_machine_direct.specs.PlainReached.{arms_in}

by_form : (e : Expr) (f : Form) → e.form ≡ f → plain-Expr e ≡ plain-Form f (plain-Mark e.mark)
by_form e f h = expr_by_form e ∙ ap (λ (g : Form). plain-Form g (plain-Mark e.mark)) h

pub unit_form : (e : Expr) → e.form ≡ form.Unit → plain-Expr e ≡ unit (plain-Mark e.mark)
unit_form e h = by_form e form.Unit h ∙ form_unit (plain-Mark e.mark)

pub block_form : (e : Expr) (ss : List Stmt) (l : Expr) (ss2 : List Stmt) (l2 : Expr) → e.form ≡ form.Block ss l → ss2 ≡ ss → l2 ≡ l
    → plain-Expr e ≡ block (plain-Mark e.mark) (nested_of (map plain-Stmt ss2) (plain-Expr l2))
block_form e ss l ss2 l2 h i j =
    by_form e (form.Block ss l) h ∙ form_block ss l (plain-Mark e.mark)
    ∙ ap (λ (x : List Stmt). block (plain-Mark e.mark) (nested_of (map plain-Stmt x) (plain-Expr l))) (sym i)
    ∙ ap (λ (x : Expr). block (plain-Mark e.mark) (nested_of (map plain-Stmt ss2) (plain-Expr x))) (sym j)

pub choose_form : (e : Expr) (c : Matched) (l l2 : List Arm) → e.form ≡ form.Choose c l → l2 ≡ l → plain-Expr e ≡ choose (plain-Mark e.mark) (plain-Matched c) (arms_in l2)
choose_form e c l l2 h i =
    by_form e (form.Choose c l) h ∙ form_choose c l (plain-Mark e.mark) ∙ ap (λ (x : List Arm). choose (plain-Mark e.mark) (plain-Matched c) (arms_in x)) (sym i)
