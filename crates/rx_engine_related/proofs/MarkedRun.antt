-- A program with the text that runs for one of its functions, or for some, has the program's runs.
use Rattle.std.proofs.Common.{◌≡◌, ℕ, ℤ, ◌==◌, if◌then◌else◌, Bool, true, false, List, [], ◌∷◌, ◌++◌, map, take, drop, Option, Some, None, refl, sym, ap, ◌∙◌, subst}
use Rattle.std.proofs.lemmas.List.{take-append-drop}
use Rattle.rx_typed.specs.Tree.{Mark, Exp, read, borrow, share, build, unit, lazily, assign, update, call, input, print, block, choose, loop, jump, give, Operands, no_operand, operand_and, Scrutinee, at_place, of_value, Arms, no_arm, arm_and, Body, ends, runs, declares, lets, Function}
use Rattle.rx_exits_plan.specs.Blocks.{Statement, does, begins, binds, statements, tail, before}
use Rattle.rx_exits_plan.specs.Runs.{Run, in_front, inside, behind}
use Rattle.rx_exits_plan.specs.Points.{Point, enters, leaves, next, jump_exit}
use Rattle.rx_exits_plan.specs.Changed.{Changes, changed, changed_all, changed_matched, changed_arms, changed_body, changed_statement}
use Rattle.rx_exits_plan.specs.Marked.{mark_then, is_among}
use Rattle.rx_meaning.specs.Values.{element}
use Rattle.rx_meaning.specs.Acting.{plainly}
use Rattle.rx_meaning.specs.Expressions.{called}
use Rattle.rx_meaning.specs.Programs.{Program, begins as starts, outcome_of, run}
use Rattle.rx_engine_related.specs.Running.{passing, running_body, in_the_block, MarkedEntry, as_it_is, marked_run}
use Rattle.rx_engine_related.proofs.SameRun.{Same, s_mark, s_read, s_borrow, s_share, s_build, s_unit, s_lazily, s_assign, s_update, s_call, s_input, s_print, s_block, s_choose, s_loop, s_jump, s_give, SameAll, no_more, one_and, SameMatched, same_place, same_of, SameArms, no_arms, arm_too, SameBody, mark_runs, same_ends, same_runs, same_declares, same_lets, SameEntry, both, no_function, nowhere, called_same}

-- what is put at blocks, jumps and returns is the same with marks
record Marks (C : Changes) : Type 0 where
  pub at_block : (n : ℕ) (was b : Body) → SameBody was b → SameBody was (C.at_block n was b)
  pub at_jump : (m : Mark) (l : ℕ) (again : Bool) → Same (jump m l again) (C.at_jump m l again)
  pub at_return : (e f : Exp) → Same e f → Same e (C.at_return f)

module _ (C : Changes) (K : Marks C) where
  mutual
    changed_same : (e : Exp) → Same e (changed C e)
    changed_same (read m v p) = s_read
    changed_same (borrow m k p) = s_borrow
    changed_same (share m e) = s_share (changed_same e)
    changed_same (build m w es) = s_build (all_same es)
    changed_same (unit m) = s_unit
    changed_same (lazily m b e f) = s_lazily (changed_same e) (changed_same f)
    changed_same (assign m p e) = s_assign (changed_same e)
    changed_same (update m o p e) = s_update (changed_same e)
    changed_same (call m f es) = s_call (all_same es)
    changed_same (input m) = s_input
    changed_same (print m e) = s_print (changed_same e)
    changed_same (block m b) = s_block (K.at_block m.node b (changed_body C b) (body_changed b))
    changed_same (choose m s l) = s_choose (matched_changed s) (arms_changed l)
    changed_same (loop m l e) = s_loop (changed_same e)
    changed_same (jump m l k) = K.at_jump m l k
    changed_same (give m e) = s_give (K.at_return e (changed C e) (changed_same e))

    all_same : (es : Operands) → SameAll es (changed_all C es)
    all_same no_operand = no_more
    all_same (operand_and i e es) = one_and (changed_same e) (all_same es)

    matched_changed : (s : Scrutinee) → SameMatched s (changed_matched C s)
    matched_changed (at_place m p) = same_place
    matched_changed (of_value e) = same_of (changed_same e)

    arms_changed : (l : Arms) → SameArms l (changed_arms C l)
    arms_changed no_arm = no_arms
    arms_changed (arm_and p e l) = arm_too (changed_same e) (arms_changed l)

    body_changed : (b : Body) → SameBody b (changed_body C b)
    body_changed (ends e) = same_ends (changed_same e)
    body_changed (runs e b) = same_runs (changed_same e) (body_changed b)
    body_changed (declares s xs b) = same_declares (body_changed b)
    body_changed (lets s p c b) = same_lets (matched_changed c) (body_changed b)

  statements_changed : (ss : List Statement) (a b : Body) → SameBody a b → SameBody (before ss a) (before (map (changed_statement C) ss) b)
  statements_changed [] a b h = h
  statements_changed (does e ∷ ss) a b h = same_runs (changed_same e) (statements_changed ss a b h)
  statements_changed (begins s xs ∷ ss) a b h = same_declares (statements_changed ss a b h)
  statements_changed (binds s p c ∷ ss) a b h = same_lets (matched_changed c) (statements_changed ss a b h)

-- without changes
mutual
  itself : (e : Exp) → Same e e
  itself (read m v p) = s_read
  itself (borrow m k p) = s_borrow
  itself (share m e) = s_share (itself e)
  itself (build m w es) = s_build (all_itself es)
  itself (unit m) = s_unit
  itself (lazily m b e f) = s_lazily (itself e) (itself f)
  itself (assign m p e) = s_assign (itself e)
  itself (update m o p e) = s_update (itself e)
  itself (call m f es) = s_call (all_itself es)
  itself (input m) = s_input
  itself (print m e) = s_print (itself e)
  itself (block m b) = s_block (body_itself b)
  itself (choose m s l) = s_choose (matched_itself s) (arms_itself l)
  itself (loop m l e) = s_loop (itself e)
  itself (jump m l k) = s_jump
  itself (give m e) = s_give (itself e)

  all_itself : (es : Operands) → SameAll es es
  all_itself no_operand = no_more
  all_itself (operand_and i e es) = one_and (itself e) (all_itself es)

  matched_itself : (s : Scrutinee) → SameMatched s s
  matched_itself (at_place m p) = same_place
  matched_itself (of_value e) = same_of (itself e)

  arms_itself : (l : Arms) → SameArms l l
  arms_itself no_arm = no_arms
  arms_itself (arm_and p e l) = arm_too (itself e) (arms_itself l)

  body_itself : (b : Body) → SameBody b b
  body_itself (ends e) = same_ends (itself e)
  body_itself (runs e b) = same_runs (itself e) (body_itself b)
  body_itself (declares s xs b) = same_declares (body_itself b)
  body_itself (lets s p c b) = same_lets (matched_itself c) (body_itself b)

statements_itself : (ss : List Statement) (a b : Body) → SameBody a b → SameBody (before ss a) (before ss b)
statements_itself [] a b h = h
statements_itself (does e ∷ ss) a b h = same_runs (itself e) (statements_itself ss a b h)
statements_itself (begins s xs ∷ ss) a b h = same_declares (statements_itself ss a b h)
statements_itself (binds s p c ∷ ss) a b h = same_lets (matched_itself c) (statements_itself ss a b h)

-- ---- a body is its statements in front of its tail; a run cuts the statements in three

again : (b : Body) → before (statements b) (ends (tail b)) ≡ b
again (ends e) = refl
again (runs e b) = ap (λ c. runs e c) (again b)
again (declares s xs b) = ap (λ c. declares s xs c) (again b)
again (lets s p c b) = ap (λ a. lets s p c a) (again b)

before_both : (ss ts : List Statement) (b : Body) → before (ss ++ ts) b ≡ before ss (before ts b)
before_both [] ts b = refl
before_both (does e ∷ ss) ts b = ap (λ c. runs e c) (before_both ss ts b)
before_both (begins s xs ∷ ss) ts b = ap (λ c. declares s xs c) (before_both ss ts b)
before_both (binds s p c ∷ ss) ts b = ap (λ a. lets s p c a) (before_both ss ts b)

cut_once : (k : ℕ) (ss : List Statement) (b : Body) → before (take k ss) (before (drop k ss) b) ≡ before ss b
cut_once k ss b = sym (before_both (take k ss) (drop k ss) b) ∙ ap (λ l. before l b) (take-append-drop k ss)

pub in_three : (r : Run) (b : Body) → before (in_front r b) (before (inside r b) (before (behind r b) (ends (tail b)))) ≡ b
in_three r b = ap (before (in_front r b)) (cut_once r.count (drop r.first (statements b)) (ends (tail b))) ∙ cut_once r.first (statements b) (ends (tail b)) ∙ again b

-- ---- the marks

jump_same : (t : Bool) (p : Point) (m : Mark) (l : ℕ) (k : Bool) → Same (jump m l k) (if t then mark_then p (jump m l k) else jump m l k)
jump_same true p m l k = s_mark p s_jump
jump_same false p m l k = s_jump

passing_marks : (ls : List ℕ) → Marks (passing ls)
passing_marks ls = record {
  at_block = λ n was b h. h;
  at_jump = λ m l k. jump_same (is_among l ls) (leaves (jump_exit l k)) m l k;
  at_return = λ e f h. h;
}

run_same : (r : Run) (ls : List ℕ) (b : Body) → SameBody b (running_body r ls [] b)
run_same r ls b =
    let rest : Body = before (behind r b) (ends (tail b)) in
    subst (λ c. SameBody c (running_body r ls [] b)) (in_three r b)
    (statements_itself (in_front r b) _ _ (mark_runs enters (statements_changed (passing ls) (passing_marks ls) (inside r b) _ _ (mark_runs (leaves next) (body_itself rest)))))

chosen : (t : Bool) (r : Run) (ls : List ℕ) (was b : Body) → SameBody was b → SameBody was (if t then running_body r ls [] was else b)
chosen true r ls was b h = run_same r ls was
chosen false r ls was b h = h

block_marks : (r : Run) (ls : List ℕ) → Marks (in_the_block r ls [])
block_marks r ls = record {
  at_block = λ n was b h. chosen (n == r.block) r ls was b h;
  at_jump = λ m l k. s_jump;
  at_return = λ e f h. h;
}

-- ---- programs

entry_same : {o o' : Option (Option Function)} → MarkedEntry o o' → SameEntry o o'
entry_same (as_it_is {o = o}) = by o
  where
    by : (o : Option (Option Function)) → SameEntry o o
    by (Some (Some g)) = both (record { params = refl; body = itself g.body })
    by (Some None) = no_function
    by None = nowhere
entry_same (marked_run {g = g} r ls) = both (record { params = refl; body = changed_same (in_the_block r ls []) (block_marks r ls) g.body })

pub marked_run_alike : (P Q : Program) → Q.main ≡ P.main → ((f : ℕ) → MarkedEntry (element P.functions f) (element Q.functions f)) → (given : List ℤ) (n : ℕ) → run Q given n ≡ run P given n
marked_run_alike P Q e entries given n =
    ap (λ m. outcome_of (called plainly Q.functions n m [] (starts given n))) e
    ∙ ap outcome_of (called_same P.functions Q.functions (λ f. entry_same (entries f)) n P.main [] (starts given n))
