-- Blocks of the code: what is said of a block's end by its tail alone, and what no statement in front is.
use Rattle.std.proofs.Common.{◌≡◌, ℕ, Bool, true, false, ◌&&◌, List, [], ◌∷◌, Option, Some, None, map, refl, sym, ap, ◌∙◌, subst}
use Rattle.rx_typed.specs.Tree as tree
use Rattle.rx_typed.specs.Tree.{Exp, Scrutinee, Body, Pattern}
use Rattle.rx_typed.specs.declared.tree.Form.TheOpen as open_form
use Rattle.rx_typed.specs.declared.tree.Stmt.{Stmt, Stmt-F, fold_out-Stmt}
use Rattle.rx_typed.specs.PlainTree.{plain-Form, plain-Matched, plain-Stmt, plain-Arm, plain-Expr, plain-Operand, form_step, matched_step, stmt_step, arm_step, expr_step, operand_step, nested_of}
use Rattle.rx_engine_alike.specs.Read.{as_ends}
use Rattle.rx_engine_alike.specs.Units.{gives_unit, ends_in_unit}
use Rattle.rx_engine_alike.specs.Giving.{ends_with_unit}
use Rattle.rx_engine_alike.specs.Leaving.{bound_then}

abbrev pub Layer : Type 0
Layer = Stmt-F (tree.Mark → Exp) Scrutinee (Body → Body) (Pattern × Exp) Exp (ℕ × Exp)

-- what holds of each form of a statement round the rest holds of those of the code
pub by_layer : (P : (Body → Body) → Type 0) → ((x : Layer) → P (stmt_step x)) → (s : Stmt) → P (plain-Stmt s)
unfolding plain-Form plain-Matched plain-Stmt plain-Arm plain-Expr plain-Operand
by_layer P h s = subst P (sym (fold_out-Stmt (tree.Mark → Exp) Scrutinee (Body → Body) (Pattern × Exp) Exp (ℕ × Exp) form_step matched_step stmt_step arm_step expr_step operand_step s)) (h _)

-- ---- no statement is the end of a block

layer_no_end : (b : Body) (x : Layer) → as_ends (stmt_step x b) ≡ None
layer_no_end b (open_form.Runs e) = refl
layer_no_end b (open_form.Declares n xs) = refl
layer_no_end b (open_form.Lets n p c) = refl

pub no_end : (s : Stmt) (b : Body) → as_ends (plain-Stmt s b) ≡ None
no_end s b = by_layer (λ f. as_ends (f b) ≡ None) (layer_no_end b) s

layer_no_unit : (b : Body) (x : Layer) → ends_with_unit (stmt_step x b) ≡ false
layer_no_unit b (open_form.Runs e) = refl
layer_no_unit b (open_form.Declares n xs) = refl
layer_no_unit b (open_form.Lets n p c) = refl

pub no_unit : (s : Stmt) (b : Body) → ends_with_unit (plain-Stmt s b) ≡ false
no_unit s b = by_layer (λ f. ends_with_unit (f b) ≡ false) (layer_no_unit b) s

layer_bound_more : (o : ℕ) (e : Exp) (b : Body) (x : Layer) → bound_then (Some o) (tree.of_value e) (stmt_step x b) ≡ None
layer_bound_more o e b (open_form.Runs f) = refl
layer_bound_more o e b (open_form.Declares n xs) = refl
layer_bound_more o e b (open_form.Lets n p c) = refl

bound_more_by : (o : Option ℕ) (c : Scrutinee) (b : Body) (s : Stmt) → bound_then o c (plain-Stmt s b) ≡ None
bound_more_by None c b s = refl
bound_more_by (Some o) (tree.at_place m p) b s = refl
bound_more_by (Some o) (tree.of_value e) b s = by_layer (λ f. bound_then (Some o) (tree.of_value e) (f b) ≡ None) (layer_bound_more o e b) s

pub bound_more : (o : Option ℕ) (c : Scrutinee) (s : Stmt) (b : Body) → bound_then o c (plain-Stmt s b) ≡ None
bound_more o c s b = bound_more_by o c b s

-- ---- units

layer_unit : (U : List ℕ) (b : Body) (x : Layer) → ends_in_unit U (stmt_step x b) ≡ ends_in_unit U b
layer_unit U b (open_form.Runs e) = refl
layer_unit U b (open_form.Declares n xs) = refl
layer_unit U b (open_form.Lets n p c) = refl

pub body_unit : (U : List ℕ) (ss : List Stmt) (e : Exp) → ends_in_unit U (nested_of (map plain-Stmt ss) e) ≡ gives_unit U e
body_unit U [] e = refl
body_unit U (s ∷ ss) e = by_layer (λ f. ends_in_unit U (f (nested_of (map plain-Stmt ss) e)) ≡ ends_in_unit U (nested_of (map plain-Stmt ss) e)) (layer_unit U _) s ∙ body_unit U ss e

pub ruleset block_rules = (no_end, no_unit, bound_more, body_unit)
