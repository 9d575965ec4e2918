-- A program with the texts that run for some of its functions, with reads where their runs are entered, has the program's runs: those are
-- trees with marks.
use Rattle.std.proofs.Common.{◌≡◌, ℕ, ℤ, ◌==◌, if◌then◌else◌, Bool, true, false, List, [], ◌∷◌, map, Option, refl, sym, ap, subst}
use Rattle.rx_typed.specs.Tree.{Mark, Exp, read, borrow, share, build, unit, lazily, assign, update, call, input, print, block, choose, loop, jump, give, Operands, no_operand, operand_and, Scrutinee, at_place, of_value, Arms, no_arm, arm_and, Body, ends, runs, declares, lets, Function, own}
use Rattle.rx_exits_plan.specs.Blocks.{Statement, does, begins, binds, tail, before}
use Rattle.rx_exits_plan.specs.Runs.{Run, in_front, inside, behind}
use Rattle.rx_exits_plan.specs.Points.{Point, enters, leaves, next, jump_exit}
use Rattle.rx_exits_plan.specs.Changed.{Changes, changed, changed_all, changed_matched, changed_arms, changed_body, changed_statement}
use Rattle.rx_exits_plan.specs.Marked.{at_point, mark, mark_then, using, entering, is_among}
use Rattle.rx_meaning.specs.Values.{element}
use Rattle.rx_meaning.specs.Programs.{Program, run}
use Rattle.rx_engine_simulation.specs.Histories.{Facts}
use Rattle.rx_engine_simulation.specs.Blocks as stretch
use Rattle.rx_engine_simulation.specs.Marks.{reading, with_mark, AreWritten}
use Rattle.rx_engine_simulation.specs.Marking as marked
use Rattle.rx_engine_simulation.specs.Marking.{marks_in, AllWritten, read_and, none_read, MarkedExp, in_block, MarkedBody, MarkedAll, MarkedMatched, MarkedArms, facts_alone, TreeEntry, with_marks, without_marks, no_function, MarkedTrees}
use Rattle.rx_engine_simulation.proofs.Marking.{itself, body_itself, matched_itself, trees_alike}
use Rattle.rx_engine_related.specs.Running.{passing, running_body, in_the_block, running}
use Rattle.rx_engine_related.specs.Reading.{ReadingEntry, reading_run, as_it_stands, not_there}
use Rattle.rx_engine_related.proofs.MarkedRun.{in_three}

-- the statements of an entry are a mark with reads behind it
reading_is : (xs : List ℕ) (b : Body) → before (map using xs) b ≡ stretch.before (reading xs stretch.done) b
reading_is [] b = refl
reading_is (x ∷ xs) b = ap (λ c. runs (read (at_point enters) false (own x)) c) (reading_is xs b)

module _ (V : Facts) where
  -- a mark in front of what follows, with reads behind it
  behind_mark : {b b1 : Body} (p : Point) (xs : List ℕ) → AreWritten V p xs → MarkedBody V b b1 → MarkedBody V b (stretch.before (with_mark p xs stretch.done) b1)
  behind_mark p xs written (in_block ms all_written m) = in_block ((p, xs) ∷ ms) (read_and written all_written) m

  at_mark : {b b1 : Body} (p : Point) → MarkedBody V b b1 → MarkedBody V b (runs (mark p) b1)
  at_mark p m = behind_mark p [] (λ x i. absurd i) m

  pub entered : {b b1 : Body} (xs : List ℕ) → AreWritten V enters xs → MarkedBody V b b1 → MarkedBody V b (before (entering xs) b1)
  entered {b} {b1} xs written m = subst (λ c. MarkedBody V b (runs (mark enters) c)) (sym (reading_is xs b1)) (behind_mark enters xs written m)

  -- what is put at blocks, jumps and returns has marks
  pub record Marks (C : Changes) : Type 0 where
    pub at_block : (n : ℕ) (was b : Body) → MarkedBody V was b → MarkedBody V was (C.at_block n was b)
    pub at_jump : (m : Mark) (l : ℕ) (again : Bool) → MarkedExp V (jump m l again) (C.at_jump m l again)
    pub at_return : (e f : Exp) → MarkedExp V e f → MarkedExp V e (C.at_return f)

  module _ (C : Changes) (K : Marks C) where
    mutual
      pub changed_marked : (e : Exp) → MarkedExp V e (changed C e)
      changed_marked (read m v p) = marked.in_front [] marked.m_read
      changed_marked (borrow m k p) = marked.in_front [] marked.m_borrow
      changed_marked (share m e) = marked.in_front [] (marked.m_share (changed_marked e))
      changed_marked (build m w es) = marked.in_front [] (marked.m_build (all_marked es))
      changed_marked (unit m) = marked.in_front [] marked.m_unit
      changed_marked (lazily m b e f) = marked.in_front [] (marked.m_lazily (changed_marked e) (changed_marked f))
      changed_marked (assign m p e) = marked.in_front [] (marked.m_assign (changed_marked e))
      changed_marked (update m o p e) = marked.in_front [] (marked.m_update (changed_marked e))
      changed_marked (call m f es) = marked.in_front [] (marked.m_call (all_marked es))
      changed_marked (input m) = marked.in_front [] marked.m_input
      changed_marked (print m e) = marked.in_front [] (marked.m_print (changed_marked e))
      changed_marked (block m b) = marked.in_front [] (marked.m_block (K.at_block m.node b (changed_body C b) (body_marked b)))
      changed_marked (choose m s l) = marked.in_front [] (marked.m_choose (matched_marked s) (arms_marked l))
      changed_marked (loop m l e) = marked.in_front [] (marked.m_loop (changed_marked e))
      changed_marked (jump m l k) = K.at_jump m l k
      changed_marked (give m e) = marked.in_front [] (marked.m_give (K.at_return e (changed C e) (changed_marked e)))

      all_marked : (es : Operands) → MarkedAll V es (changed_all C es)
      all_marked no_operand = marked.m_no_operand
      all_marked (operand_and i e es) = marked.m_operand_and (changed_marked e) (all_marked es)

      matched_marked : (s : Scrutinee) → MarkedMatched V s (changed_matched C s)
      matched_marked (at_place m p) = marked.m_at_place
      matched_marked (of_value e) = marked.m_of_value (changed_marked e)

      arms_marked : (l : Arms) → MarkedArms V l (changed_arms C l)
      arms_marked no_arm = marked.m_no_arm
      arms_marked (arm_and p e l) = marked.m_arm_and (changed_marked e) (arms_marked l)

      body_marked : (b : Body) → MarkedBody V b (changed_body C b)
      body_marked (ends e) = in_block [] none_read (marked.m_ends (changed_marked e))
      body_marked (runs e b) = in_block [] none_read (marked.m_runs (changed_marked e) (body_marked b))
      body_marked (declares s xs b) = in_block [] none_read (marked.m_declares (body_marked b))
      body_marked (lets s p c b) = in_block [] none_read (marked.m_lets (matched_marked c) (body_marked b))

    pub statements_marked : (ss : List Statement) (a b : Body) → MarkedBody V a b → MarkedBody V (before ss a) (before (map (changed_statement C) ss) b)
    statements_marked [] a b h = h
    statements_marked (does e ∷ ss) a b h = in_block [] none_read (marked.m_runs (changed_marked e) (statements_marked ss a b h))
    statements_marked (begins s xs ∷ ss) a b h = in_block [] none_read (marked.m_declares (statements_marked ss a b h))
    statements_marked (binds s p c ∷ ss) a b h = in_block [] none_read (marked.m_lets (matched_marked c) (statements_marked ss a b h))

  pub statements_itself : (ss : List Statement) (a b : Body) → MarkedBody V a b → MarkedBody V (before ss a) (before ss b)
  statements_itself [] a b h = h
  statements_itself (does e ∷ ss) a b h = in_block [] none_read (marked.m_runs (itself V e) (statements_itself ss a b h))
  statements_itself (begins s xs ∷ ss) a b h = in_block [] none_read (marked.m_declares (statements_itself ss a b h))
  statements_itself (binds s p c ∷ ss) a b h = in_block [] none_read (marked.m_lets (matched_itself V c) (statements_itself ss a b h))

  jump_marked : (t : Bool) (p : Point) (m : Mark) (l : ℕ) (k : Bool) → MarkedExp V (jump m l k) (if t then mark_then p (jump m l k) else jump m l k)
  jump_marked true p m l k = marked.in_front (marked.in_front_of p ∷ []) marked.m_jump
  jump_marked false p m l k = marked.in_front [] marked.m_jump

  pub passing_marks : (ls : List ℕ) → Marks (passing ls)
  passing_marks ls = record {
    at_block = λ n was b h. h;
    at_jump = λ m l k. jump_marked (is_among l ls) (leaves (jump_exit l k)) m l k;
    at_return = λ e f h. h;
  }

  run_marked : (r : Run) (ls xs : List ℕ) → AreWritten V enters xs → (b : Body) → MarkedBody V b (running_body r ls xs b)
  run_marked r ls xs written b =
      let rest : Body = before (behind r b) (ends (tail b)) in
      subst (λ c. MarkedBody V c (running_body r ls xs b)) (in_three r b)
      (statements_itself (in_front r b) _ _ (entered xs written (statements_marked (passing ls) (passing_marks ls) (inside r b) _ _ (at_mark (leaves next) (body_itself V rest)))))

  chosen : (t : Bool) (r : Run) (ls xs : List ℕ) → AreWritten V enters xs → (was b : Body) → MarkedBody V was b → MarkedBody V was (if t then running_body r ls xs was else b)
  chosen true r ls xs written was b h = run_marked r ls xs written was
  chosen false r ls xs written was b h = h

  block_marks : (r : Run) (ls xs : List ℕ) → AreWritten V enters xs → Marks (in_the_block r ls xs)
  block_marks r ls xs written = record {
    at_block = λ n was b h. chosen (n == r.block) r ls xs written was b h;
    at_jump = λ m l k. marked.in_front [] marked.m_jump;
    at_return = λ e f h. h;
  }

-- ---- programs

tree_entry : {o o' : Option (Option Function)} → ReadingEntry o o' → TreeEntry o o'
tree_entry (reading_run {g = g} r ls xs l none written) =
    with_marks l none refl (changed_marked (facts_alone (running r ls xs g)) (in_the_block r ls xs) (block_marks (facts_alone (running r ls xs g)) r ls xs written) g.body)
tree_entry (as_it_stands l none) = without_marks l none
tree_entry (not_there n n') = no_function n n'

pub reading_alike : (P T : Program) → T.main ≡ P.main → ((f : ℕ) → ReadingEntry (element P.functions f) (element T.functions f)) → (given : List ℤ) (n : ℕ) → run T given n ≡ run P given n
reading_alike P T e entries given n = trees_alike P T (record { entries = λ f. tree_entry (entries f); mains = e }) given n
