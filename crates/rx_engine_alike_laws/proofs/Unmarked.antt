-- Where no loop is around the run, no jump is marked: the text is as it is.
use Rattle.std.proofs.Common.{◌≡◌, ℕ, List, [], refl, ap, ◌∙◌}
use Rattle.rx_typed.specs.Tree as tree
use Rattle.rx_typed.specs.Tree.{Exp, Operands, Scrutinee, Arms, Body}
use Rattle.rx_exits_plan.specs.Changed.{changed, changed_all, changed_matched, changed_arms, changed_body}
use Rattle.rx_engine_related.specs.Running.{passing}

mutual
  pub same_exp : (e : Exp) → changed (passing []) e ≡ e
  same_exp (tree.read m v p) = refl
  same_exp (tree.borrow m b p) = refl
  same_exp (tree.share m e) = ap (tree.share m) (same_exp e)
  same_exp (tree.build m w es) = ap (tree.build m w) (same_all es)
  same_exp (tree.unit m) = refl
  same_exp (tree.lazily m b e f) = ap (λ z. tree.lazily m b z (changed (passing []) f)) (same_exp e) ∙ ap (tree.lazily m b e) (same_exp f)
  same_exp (tree.assign m p e) = ap (tree.assign m p) (same_exp e)
  same_exp (tree.update m o p e) = ap (tree.update m o p) (same_exp e)
  same_exp (tree.call m f es) = ap (tree.call m f) (same_all es)
  same_exp (tree.input m) = refl
  same_exp (tree.print m e) = ap (tree.print m) (same_exp e)
  same_exp (tree.block m b) = ap (tree.block m) (same_body b)
  same_exp (tree.choose m c l) = ap (λ z. tree.choose m z (changed_arms (passing []) l)) (same_matched c) ∙ ap (tree.choose m c) (same_arms l)
  same_exp (tree.loop m l e) = ap (tree.loop m l) (same_exp e)
  same_exp (tree.jump m l again) = refl
  same_exp (tree.give m e) = ap (tree.give m) (same_exp e)

  pub same_all : (es : Operands) → changed_all (passing []) es ≡ es
  same_all tree.no_operand = refl
  same_all (tree.operand_and i e es) = ap (λ z. tree.operand_and i z (changed_all (passing []) es)) (same_exp e) ∙ ap (tree.operand_and i e) (same_all es)

  pub same_matched : (c : Scrutinee) → changed_matched (passing []) c ≡ c
  same_matched (tree.at_place m p) = refl
  same_matched (tree.of_value e) = ap tree.of_value (same_exp e)

  pub same_arms : (l : Arms) → changed_arms (passing []) l ≡ l
  same_arms tree.no_arm = refl
  same_arms (tree.arm_and q e l) = ap (λ z. tree.arm_and q z (changed_arms (passing []) l)) (same_exp e) ∙ ap (tree.arm_and q e) (same_arms l)

  pub same_body : (b : Body) → changed_body (passing []) b ≡ b
  same_body (tree.ends e) = ap tree.ends (same_exp e)
  same_body (tree.runs e b) = ap (λ z. tree.runs z (changed_body (passing []) b)) (same_exp e) ∙ ap (tree.runs e) (same_body b)
  same_body (tree.declares n xs b) = ap (tree.declares n xs) (same_body b)
  same_body (tree.lets n q c b) = ap (λ z. tree.lets n q z (changed_body (passing []) b)) (same_matched c) ∙ ap (tree.lets n q c) (same_body b)

pub unmarked_exp : {ls : List ℕ} (e : Exp) → ls ≡ [] → changed (passing ls) e ≡ e
unmarked_exp e q = ap (λ ls. changed (passing ls) e) q ∙ same_exp e

pub unmarked_body : {ls : List ℕ} (b : Body) → ls ≡ [] → changed_body (passing ls) b ≡ b
unmarked_body b q = ap (λ ls. changed_body (passing ls) b) q ∙ same_body b
