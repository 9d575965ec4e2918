-- Breaks are read off the tree as off its spots, wherever it stands.
use Rattle.std.proofs.lemmas.Bool.{false≢true}
use Rattle.std.proofs.Common.{◌≡◌, ℕ, ◌==◌, Bool, true, false, not, ◌&&◌, ◌||◌, List, [], ◌∷◌, ◌++◌, map, refl, sym, ap, ◌∙◌, subst}
use Rattle.rx_typed.specs.Tree as tree
use Rattle.rx_typed.specs.Tree.{Exp, read, borrow, share, build, unit, lazily, assign, update, call, input, print, block, choose, loop, jump, give, Operands, no_operand, operand_and, Scrutinee, at_place, of_value, Arms, no_arm, arm_and, Body, ends, runs, declares, lets, Pattern}
use Rattle.rx_typed.specs.declared.tree.Form.TheOpen as open_form
use Rattle.rx_typed.specs.declared.tree.Stmt.{Stmt, Stmt-F, fold_out-Stmt}
use Rattle.rx_typed.specs.PlainTree.{plain-Form, plain-Matched, plain-Stmt, plain-Arm, plain-Expr, plain-Operand, form_step, matched_step, stmt_step, arm_step, expr_step, operand_step, nested_of}
use Rattle.rx_exits_plan.specs.Blocks.{Statement, does, begins, binds, bound}
use Rattle.rx_exits_plan.specs.Spots.{Around, with_variables, with_loop, Spot, a_block, a_jump, a_return, spots, spots_in, spots_matched, spots_armed, spots_of}
use Rattle.rx_exits_plan.specs.Diverging.{is_broken, nothing_around, diverges, body_diverges, any_diverges}
use Rattle.rx_exits_plan.specs.PlainSyntax.{plain-Statement, first_of, no_more}
use Rattle.rx_exits_jumps.specs.Broken.{breaks, breaks_in, breaks_matched, breaks_armed, breaks_of, breaks_statement, breaks_statements, statement_diverges, is_choose, test_diverges}

or_assoc : (a b c : Bool) → (a || b) || c ≡ a || (b || c)
or_assoc true b c = refl
or_assoc false b c = refl

or_none : (a : Bool) → a || false ≡ a
or_none true = refl
or_none false = refl

both_or : (a b c d : Bool) → a ≡ b → c ≡ d → a || c ≡ b || d
both_or a b c d e f = ap (λ x. x || c) e ∙ ap (λ x. b || x) f

broken_more : (l : ℕ) (ss ts : List Spot) → is_broken l (ss ++ ts) ≡ is_broken l ss || is_broken l ts
broken_more l [] ts = refl
broken_more l (a_block a n b ∷ ss) ts = broken_more l ss ts
broken_more l (a_jump a n k again ∷ ss) ts =
    ap (λ x. ((k == l) && not again) || x) (broken_more l ss ts) ∙ sym (or_assoc ((k == l) && not again) (is_broken l ss) (is_broken l ts))
broken_more l (a_return a n ∷ ss) ts = broken_more l ss ts

-- ---- of spots

mutual
  pub broken_spots : (l : ℕ) (a : Around) (e : Exp) → is_broken l (spots a e) ≡ breaks l e
  broken_spots l a (read m v p) = refl
  broken_spots l a (borrow m k p) = refl
  broken_spots l a (share m e) = broken_spots l a e
  broken_spots l a (build m w es) = broken_in l a es
  broken_spots l a (unit m) = refl
  broken_spots l a (lazily m b e f) = broken_more l (spots a e) (spots a f) ∙ both_or _ _ _ _ (broken_spots l a e) (broken_spots l a f)
  broken_spots l a (assign m p e) = broken_spots l a e
  broken_spots l a (update m o p e) = broken_spots l a e
  broken_spots l a (call m f es) = broken_in l a es
  broken_spots l a (input m) = refl
  broken_spots l a (print m e) = broken_spots l a e
  broken_spots l a (block m b) = broken_of l a b
  broken_spots l a (choose m s arms) = broken_more l (spots_matched a s) (spots_armed a arms) ∙ both_or _ _ _ _ (broken_matched l a s) (broken_armed l a arms)
  broken_spots l a (loop m k e) = broken_spots l (with_loop k a) e
  broken_spots l a (jump m k again) = or_none ((k == l) && not again)
  broken_spots l a (give m e) = broken_more l (spots a e) (a_return a m.node ∷ []) ∙ or_none (is_broken l (spots a e)) ∙ broken_spots l a e

  broken_in : (l : ℕ) (a : Around) (es : Operands) → is_broken l (spots_in a es) ≡ breaks_in l es
  broken_in l a no_operand = refl
  broken_in l a (operand_and i e es) = broken_more l (spots a e) (spots_in a es) ∙ both_or _ _ _ _ (broken_spots l a e) (broken_in l a es)

  broken_matched : (l : ℕ) (a : Around) (s : Scrutinee) → is_broken l (spots_matched a s) ≡ breaks_matched l s
  broken_matched l a (at_place m p) = refl
  broken_matched l a (of_value e) = broken_spots l a e

  broken_armed : (l : ℕ) (a : Around) (arms : Arms) → is_broken l (spots_armed a arms) ≡ breaks_armed l arms
  broken_armed l a no_arm = refl
  broken_armed l a (arm_and p e arms) =
      broken_more l (spots (with_variables (bound p) a) e) (spots_armed a arms) ∙ both_or _ _ _ _ (broken_spots l (with_variables (bound p) a) e) (broken_armed l a arms)

  broken_of : (l : ℕ) (a : Around) (b : Body) → is_broken l (spots_of a b) ≡ breaks_of l b
  broken_of l a (ends e) = broken_spots l a e
  broken_of l a (runs e b) = broken_more l (spots a e) (spots_of a b) ∙ both_or _ _ _ _ (broken_spots l a e) (broken_of l a b)
  broken_of l a (declares s xs b) = broken_of l (with_variables xs a) b
  broken_of l a (lets s p c b) =
      broken_more l (spots_matched a c) (spots_of (with_variables (bound p) a) b) ∙ both_or _ _ _ _ (broken_matched l a c) (broken_of l (with_variables (bound p) a) b)

-- ---- of a block of the code

layer_breaks : (l : ℕ) (x : Stmt-F (tree.Mark → Exp) Scrutinee (Body → Body) (Pattern × Exp) Exp (ℕ × Exp)) (b : Body)
    → breaks_of l (stmt_step x b) ≡ breaks_statement l (first_of (stmt_step x no_more)) || breaks_of l b
layer_breaks l (open_form.Runs e) b = refl
layer_breaks l (open_form.Declares n xs) b = refl
layer_breaks l (open_form.Lets n p s) b = refl

breaks_by : (l : ℕ) (g : Body → Body) (x : Stmt-F (tree.Mark → Exp) Scrutinee (Body → Body) (Pattern × Exp) Exp (ℕ × Exp)) → g ≡ stmt_step x → (b : Body)
    → breaks_of l (g b) ≡ breaks_statement l (first_of (g no_more)) || breaks_of l b
breaks_by l g x e b = subst (λ (h : Body → Body). breaks_of l (h b) ≡ breaks_statement l (first_of (h no_more)) || breaks_of l b) (sym e) (layer_breaks l x b)

stmt_breaks : (l : ℕ) (s : Stmt) (b : Body) → breaks_of l (plain-Stmt s b) ≡ breaks_statement l (plain-Statement s) || breaks_of l b
unfolding plain-Form plain-Matched plain-Stmt plain-Arm plain-Expr plain-Operand
stmt_breaks l s b = breaks_by l _ _ (fold_out-Stmt (tree.Mark → Exp) Scrutinee (Body → Body) (Pattern × Exp) Exp (ℕ × Exp) form_step matched_step stmt_step arm_step expr_step operand_step s) b

pub body_breaks : (l : ℕ) (ss : List Stmt) (e : Exp) → breaks_of l (nested_of (map plain-Stmt ss) e) ≡ breaks_statements l (map plain-Statement ss) || breaks l e
body_breaks l [] e = refl
body_breaks l (s ∷ ss) e =
    stmt_breaks l s (nested_of (map plain-Stmt ss) e) ∙ ap (λ x. breaks_statement l (plain-Statement s) || x) (body_breaks l ss e)
    ∙ sym (or_assoc (breaks_statement l (plain-Statement s)) (breaks_statements l (map plain-Statement ss)) (breaks l e))

pub ruleset broken_rules = (body_breaks)

-- ---- what never goes on

layer_diverges : (x : Stmt-F (tree.Mark → Exp) Scrutinee (Body → Body) (Pattern × Exp) Exp (ℕ × Exp)) (b : Body)
    → body_diverges (stmt_step x b) ≡ statement_diverges (first_of (stmt_step x no_more)) || body_diverges b
layer_diverges (open_form.Runs e) b = refl
layer_diverges (open_form.Declares n xs) b = refl
layer_diverges (open_form.Lets n p s) b = refl

diverges_by : (g : Body → Body) (x : Stmt-F (tree.Mark → Exp) Scrutinee (Body → Body) (Pattern × Exp) Exp (ℕ × Exp)) → g ≡ stmt_step x → (b : Body)
    → body_diverges (g b) ≡ statement_diverges (first_of (g no_more)) || body_diverges b
diverges_by g x e b = subst (λ (h : Body → Body). body_diverges (h b) ≡ statement_diverges (first_of (h no_more)) || body_diverges b) (sym e) (layer_diverges x b)

stmt_diverges : (s : Stmt) (b : Body) → body_diverges (plain-Stmt s b) ≡ statement_diverges (plain-Statement s) || body_diverges b
unfolding plain-Form plain-Matched plain-Stmt plain-Arm plain-Expr plain-Operand
stmt_diverges s b = diverges_by _ _ (fold_out-Stmt (tree.Mark → Exp) Scrutinee (Body → Body) (Pattern × Exp) Exp (ℕ × Exp) form_step matched_step stmt_step arm_step expr_step operand_step s) b

pub any_more : (s : Statement) (ss : List Statement) → any_diverges (s ∷ ss) ≡ statement_diverges s || any_diverges ss
any_more (does e) ss = refl
any_more (begins s xs) ss = refl
any_more (binds s p c) ss = refl

pub body_diverging : (ss : List Stmt) (e : Exp) → body_diverges (nested_of (map plain-Stmt ss) e) ≡ any_diverges (map plain-Statement ss) || diverges e
body_diverging [] e = refl
body_diverging (s ∷ ss) e =
    stmt_diverges s (nested_of (map plain-Stmt ss) e) ∙ ap (λ x. statement_diverges (plain-Statement s) || x) (body_diverging ss e)
    ∙ sym (or_assoc (statement_diverges (plain-Statement s)) (any_diverges (map plain-Statement ss)) (diverges e))
    ∙ ap (λ x. x || diverges e) (sym (any_more (plain-Statement s) (map plain-Statement ss)))

-- a loop, by what its body is
pub choosing_loop : (m : tree.Mark) (l : ℕ) (e : Exp) → is_choose e ≡ true → diverges (loop m l e) ≡ test_diverges e
choosing_loop m l (choose n s arms) h = refl
choosing_loop m l (read n v p) h = absurd (false≢true h)
choosing_loop m l (borrow n k p) h = absurd (false≢true h)
choosing_loop m l (share n e) h = absurd (false≢true h)
choosing_loop m l (build n w es) h = absurd (false≢true h)
choosing_loop m l (unit n) h = absurd (false≢true h)
choosing_loop m l (lazily n b e f) h = absurd (false≢true h)
choosing_loop m l (assign n p e) h = absurd (false≢true h)
choosing_loop m l (update n o p e) h = absurd (false≢true h)
choosing_loop m l (call n f es) h = absurd (false≢true h)
choosing_loop m l (input n) h = absurd (false≢true h)
choosing_loop m l (print n e) h = absurd (false≢true h)
choosing_loop m l (block n b) h = absurd (false≢true h)
choosing_loop m l (loop n k e) h = absurd (false≢true h)
choosing_loop m l (jump n k again) h = absurd (false≢true h)
choosing_loop m l (give n e) h = absurd (false≢true h)

pub other_loop : (m : tree.Mark) (l : ℕ) (e : Exp) → is_choose e ≡ false → diverges (loop m l e) ≡ not (breaks l e)
other_loop m l (choose n s arms) h = absurd (false≢true (sym h))
other_loop m l (read n v p) h = refl
other_loop m l (borrow n k p) h = refl
other_loop m l (share n e) h = ap not (broken_spots l nothing_around e)
other_loop m l (build n w es) h = ap not (broken_in l nothing_around es)
other_loop m l (unit n) h = refl
other_loop m l (lazily n b e f) h = ap not (broken_spots l nothing_around (lazily n b e f))
other_loop m l (assign n p e) h = ap not (broken_spots l nothing_around e)
other_loop m l (update n o p e) h = ap not (broken_spots l nothing_around e)
other_loop m l (call n f es) h = ap not (broken_in l nothing_around es)
other_loop m l (input n) h = refl
other_loop m l (print n e) h = ap not (broken_spots l nothing_around e)
other_loop m l (block n b) h = ap not (broken_of l nothing_around b)
other_loop m l (loop n k e) h = ap not (broken_spots l (with_loop k nothing_around) e)
other_loop m l (jump n k again) h = ap not (or_none ((k == l) && not again))
other_loop m l (give n e) h = ap not (broken_spots l nothing_around (give n e))

pub ruleset diverging_rules = (body_diverging, any_more)
