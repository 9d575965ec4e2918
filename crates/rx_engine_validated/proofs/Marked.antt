-- Marks in front of jumps out of a run change nothing of this: what never goes on by its form doesn't with them.
use Rattle.std.proofs.Common.{ℕ, Bool, true, false, List, [], ◌∷◌, map, if◌then◌else◌}
use Rattle.rx_typed.specs.Tree as tree
use Rattle.rx_typed.specs.Tree.{Mark, Exp, Operands, Scrutinee, Arms, Body}
use Rattle.rx_exits_plan.specs.Blocks.{Statement, does, begins, binds}
use Rattle.rx_exits_plan.specs.Points.{jump_exit, leaves}
use Rattle.rx_exits_plan.specs.Changed.{changed, changed_all, changed_matched, changed_arms, changed_body, changed_statement}
use Rattle.rx_exits_plan.specs.Marked.{is_among, mark_then}
use Rattle.rx_engine_related.specs.Running.{passing}
use Rattle.rx_engine_related.specs.Never.{HasNoBreak, NoneHasBreak, MatchedHasNoBreak, ArmsHaveNoBreak, BodyHasNoBreak, NeverOn, never_jump, never_return, never_share, never_build, never_lazily, never_assign, never_update, never_call, never_print, never_block, never_matched, never_armed, never_loop, never_tested, SomeNever, this_operand, later_operand, NeverMatched, never_value, AllNever, no_arm_goes, arm_never, NeverThrough, tail_never, statement_never, behind_statement, behind_declaration, let_never, behind_let, NeverPassed, does_never, does_later, declares_later, lets_never, lets_later}
use Rattle.rx_engine_related.specs.Stretched.{stretch_of}

module _ (ls : List ℕ) where
  -- ---- no further `break`

  no_break_there : (l : ℕ) (m : Mark) (k : ℕ) (again : Bool) → HasNoBreak l (tree.jump m k again) → (b : Bool) → HasNoBreak l (if b then mark_then (leaves (jump_exit k again)) (tree.jump m k again) else tree.jump m k again)
  no_break_there l m k again h true = (tt, h)
  no_break_there l m k again h false = h

  mutual
    unbroken_there : (l : ℕ) (e : Exp) → HasNoBreak l e → HasNoBreak l (changed (passing ls) e)
    unbroken_there l (tree.read m v p) h = tt
    unbroken_there l (tree.borrow m k p) h = tt
    unbroken_there l (tree.share m e) h = unbroken_there l e h
    unbroken_there l (tree.build m w es) h = all_there l es h
    unbroken_there l (tree.unit m) h = tt
    unbroken_there l (tree.lazily m b e f) h = (unbroken_there l e h.0, unbroken_there l f h.1)
    unbroken_there l (tree.assign m p e) h = unbroken_there l e h
    unbroken_there l (tree.update m o p e) h = unbroken_there l e h
    unbroken_there l (tree.call m f es) h = all_there l es h
    unbroken_there l (tree.input m) h = tt
    unbroken_there l (tree.print m e) h = unbroken_there l e h
    unbroken_there l (tree.block m b) h = body_there l b h
    unbroken_there l (tree.choose m s r) h = (matched_there l s h.0, arms_there l r h.1)
    unbroken_there l (tree.loop m k e) h = unbroken_there l e h
    unbroken_there l (tree.jump m k again) h = no_break_there l m k again h (is_among k ls)
    unbroken_there l (tree.give m e) h = unbroken_there l e h

    all_there : (l : ℕ) (es : Operands) → NoneHasBreak l es → NoneHasBreak l (changed_all (passing ls) es)
    all_there l tree.no_operand h = tt
    all_there l (tree.operand_and i e es) h = (unbroken_there l e h.0, all_there l es h.1)

    matched_there : (l : ℕ) (s : Scrutinee) → MatchedHasNoBreak l s → MatchedHasNoBreak l (changed_matched (passing ls) s)
    matched_there l (tree.at_place m p) h = tt
    matched_there l (tree.of_value e) h = unbroken_there l e h

    arms_there : (l : ℕ) (r : Arms) → ArmsHaveNoBreak l r → ArmsHaveNoBreak l (changed_arms (passing ls) r)
    arms_there l tree.no_arm h = tt
    arms_there l (tree.arm_and p e r) h = (unbroken_there l e h.0, arms_there l r h.1)

    body_there : (l : ℕ) (b : Body) → BodyHasNoBreak l b → BodyHasNoBreak l (changed_body (passing ls) b)
    body_there l (tree.ends e) h = unbroken_there l e h
    body_there l (tree.runs e b) h = (unbroken_there l e h.0, body_there l b h.1)
    body_there l (tree.declares s xs b) h = body_there l b h
    body_there l (tree.lets s p c b) h = (matched_there l c h.0, body_there l b h.1)

  -- ---- what never goes on

  never_there : (m : Mark) (k : ℕ) (again b : Bool) → NeverOn (if b then mark_then (leaves (jump_exit k again)) (tree.jump m k again) else tree.jump m k again)
  never_there m k again true = never_block (behind_statement (tail_never never_jump))
  never_there m k again false = never_jump

  mutual
    pub still_never : {e : Exp} → NeverOn e → NeverOn (changed (passing ls) e)
    still_never (never_jump {m = m} {l = l} {again = again}) = never_there m l again (is_among l ls)
    still_never never_return = never_return
    still_never (never_share n) = never_share (still_never n)
    still_never (never_build n) = never_build (some_still n)
    still_never (never_lazily n) = never_lazily (still_never n)
    still_never (never_assign n) = never_assign (still_never n)
    still_never (never_update n) = never_update (still_never n)
    still_never (never_call n) = never_call (some_still n)
    still_never (never_print n) = never_print (still_never n)
    still_never (never_block n) = never_block (through_still n)
    still_never (never_matched n) = never_matched (matched_still n)
    still_never (never_armed a) = never_armed (all_still a)
    still_never (never_loop {l = l} {e = e} h) = never_loop (unbroken_there l e h)
    still_never (never_tested {l = l} {c = c} n h) = never_tested (matched_still n) (matched_there l c h)

    some_still : {es : Operands} → SomeNever es → SomeNever (changed_all (passing ls) es)
    some_still (this_operand n) = this_operand (still_never n)
    some_still (later_operand n) = later_operand (some_still n)

    pub matched_still : {s : Scrutinee} → NeverMatched s → NeverMatched (changed_matched (passing ls) s)
    matched_still (never_value n) = never_value (still_never n)

    all_still : {r : Arms} → AllNever r → AllNever (changed_arms (passing ls) r)
    all_still no_arm_goes = no_arm_goes
    all_still (arm_never n a) = arm_never (still_never n) (all_still a)

    through_still : {b : Body} → NeverThrough b → NeverThrough (changed_body (passing ls) b)
    through_still (tail_never n) = tail_never (still_never n)
    through_still (statement_never n) = statement_never (still_never n)
    through_still (behind_statement n) = behind_statement (through_still n)
    through_still (behind_declaration n) = behind_declaration (through_still n)
    through_still (let_never n) = let_never (matched_still n)
    through_still (behind_let n) = behind_let (through_still n)

  -- ---- statements

  abbrev pub with_marks : List Statement → List Statement
  with_marks ss = map (changed_statement (passing ls)) ss

  pub passed_still : (ss : List Statement) → NeverPassed (stretch_of ss) → NeverPassed (stretch_of (with_marks ss))
  passed_still [] n = elim n [ ]
  passed_still (does e ∷ ss) (does_never n) = does_never (still_never n)
  passed_still (does e ∷ ss) (does_later n) = does_later (passed_still ss n)
  passed_still (begins s xs ∷ ss) (declares_later n) = declares_later (passed_still ss n)
  passed_still (binds s p c ∷ ss) (lets_never n) = lets_never (matched_still n)
  passed_still (binds s p c ∷ ss) (lets_later n) = lets_later (passed_still ss n)
