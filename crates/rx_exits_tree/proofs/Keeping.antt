-- A copy without changes is the same.
use Rattle.std.proofs.Common.{◌≡◌, List, [], ◌∷◌, map, refl, ap, ◌∙◌}
use Rattle.rx_typed.specs.Tree.{Exp, read, borrow, share, build, unit, lazily, assign, update, call, input, print, block, choose, loop, jump, give, Operands, no_operand, operand_and, Scrutinee, at_place, of_value, Arms, no_arm, arm_and, Body, ends, runs, declares, lets}
use Rattle.rx_exits_plan.specs.Blocks.{Statement, does, begins, binds}
use Rattle.rx_exits_plan.specs.Changed.{changed, changed_all, changed_matched, changed_arms, changed_body, changed_statement}
use Rattle.rx_exits_tree.specs.Changing.{keeping}

mutual
  pub kept : (e : Exp) → changed keeping e ≡ e
  kept (read m v p) = refl
  kept (borrow m k p) = refl
  kept (share m e) = ap (share m) (kept e)
  kept (build m w es) = ap (build m w) (all_kept es)
  kept (unit m) = refl
  kept (lazily m b e f) = ap (λ x. lazily m b x (changed keeping f)) (kept e) ∙ ap (lazily m b e) (kept f)
  kept (assign m p e) = ap (assign m p) (kept e)
  kept (update m o p e) = ap (update m o p) (kept e)
  kept (call m f es) = ap (call m f) (all_kept es)
  kept (input m) = refl
  kept (print m e) = ap (print m) (kept e)
  kept (block m b) = ap (block m) (body_kept b)
  kept (choose m s l) = ap (λ x. choose m x (changed_arms keeping l)) (matched_kept s) ∙ ap (choose m s) (arms_kept l)
  kept (loop m l e) = ap (loop m l) (kept e)
  kept (jump m l k) = refl
  kept (give m e) = ap (give m) (kept e)

  all_kept : (es : Operands) → changed_all keeping es ≡ es
  all_kept no_operand = refl
  all_kept (operand_and i e es) = ap (λ x. operand_and i x (changed_all keeping es)) (kept e) ∙ ap (operand_and i e) (all_kept es)

  matched_kept : (s : Scrutinee) → changed_matched keeping s ≡ s
  matched_kept (at_place m p) = refl
  matched_kept (of_value e) = ap of_value (kept e)

  arms_kept : (l : Arms) → changed_arms keeping l ≡ l
  arms_kept no_arm = refl
  arms_kept (arm_and p e l) = ap (λ x. arm_and p x (changed_arms keeping l)) (kept e) ∙ ap (arm_and p e) (arms_kept l)

  body_kept : (b : Body) → changed_body keeping b ≡ b
  body_kept (ends e) = ap ends (kept e)
  body_kept (runs e b) = ap (λ x. runs x (changed_body keeping b)) (kept e) ∙ ap (runs e) (body_kept b)
  body_kept (declares s xs b) = ap (declares s xs) (body_kept b)
  body_kept (lets s p c b) = ap (λ x. lets s p x (changed_body keeping b)) (matched_kept c) ∙ ap (lets s p c) (body_kept b)

statement_kept : (s : Statement) → changed_statement keeping s ≡ s
statement_kept (does e) = ap does (kept e)
statement_kept (begins n xs) = refl
statement_kept (binds n p c) = ap (binds n p) (matched_kept c)

pub statements_kept : (ss : List Statement) → map (changed_statement keeping) ss ≡ ss
statements_kept [] = refl
statements_kept (s ∷ ss) = ap (λ x. x ∷ map (changed_statement keeping) ss) (statement_kept s) ∙ ap (λ l. s ∷ l) (statements_kept ss)
