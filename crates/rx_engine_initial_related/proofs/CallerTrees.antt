-- The caller is alike the text with all its marks, where what is asked besides holds along the relation of trees.
use Rattle.std.proofs.Common.{◌≡◌, ℕ, Bool, true, false, ◌==◌, if◌then◌else◌, [], refl, sym, subst, ap, true≢false}
use Rattle.rx_typed.specs.Tree as tree
use Rattle.rx_typed.specs.Tree.{Mark, Exp, Operands, Scrutinee, Arms, Body, mark_of, temporary_at}
use Rattle.rx_lower_walks.specs.Matching.{bindings, tests}
use Rattle.rx_lower_walks.specs.Actions.{Subject, subject}
use Rattle.rx_lower_walks.specs.Actions.{in_temporary as subject_in}
use Rattle.rx_exits_plan.specs.Changed.{Changes, changed, changed_all, changed_matched, changed_arms, changed_body}
use Rattle.rx_exits_plan.specs.Marked.{marked_body, at_the_block}
use Rattle.rx_exits_plan.specs.Asked.{Asked}
use Rattle.rx_exits_plan.specs.Plan.{Plan}
use Rattle.rx_engine_simulation.specs.Turns.{Allowance}
use Rattle.rx_engine_simulation.specs.Histories.{Facts}
use Rattle.rx_engine_simulation.specs.Sights.{Renaming}
use Rattle.rx_engine_simulation.specs.Jumps.{Jumping}
use Rattle.rx_engine_simulation.specs.Openings.{Openings}
use Rattle.rx_engine_simulation.specs.Like.{LikeExp, opens, reads, borrows, views, shares, builds, builds_structs, builds_variants, units, lazies, assigns, updates, calls, inputs, prints, blocks, chooses, loops, stays, gives, LikeAll, no_operands, operands_and, LikeMatched, at_places, of_values, LikeArms, no_arms, arms_and, LikeBody, opens_in, ends_in, runs_on, declares_all, lets_in, reads_place, looks_behind}
use Rattle.rx_engine_related.specs.InBlock.{run_block, in_its_block}
use Rattle.rx_engine_initial.specs.Variables.{Sides, KnownVariables}
use Rattle.rx_engine_initial_forms.specs.Binders.{AlikeTests, AlikeBindings}
use Rattle.rx_engine_initial_forms.specs.Alike as alike
use Rattle.rx_engine_initial_forms.specs.Alike.{AlikeExp, AlikeAll, AlikeMatched, AlikeArms, AlikeBody}
use Rattle.rx_engine_initial_forms.specs.Agreeing.{Agrees}
use Rattle.rx_engine_initial_forms.specs.Following.{AgreesOnLoops}
use Rattle.rx_engine_initial_forms.proofs.Places.{read_copy, borrow_copy, write_copy}
use Rattle.rx_engine_initial_forms.proofs.Begun.{declared_alike, bindings_alike, tests_alike}
use Rattle.rx_engine_initial_forms.proofs.Following.{declared_loops, bound_loops, same_loops, in_it, inside_it, loops_in_it, agrees_in_it}
use Rattle.rx_engine_initial_related.specs.Calling.{ExpCalls, AllCall, MatchedCalls, ArmsCall, BodyCalls}

module _ (S : Sides) (A : Asked) (k : Plan) where
  abbrev C : Changes
  C = at_the_block A.run A.home.around.loops k.params

  mark_stays : (e : Exp) → mark_of (changed C e) ≡ mark_of e
  mark_stays (tree.read m v p) = refl
  mark_stays (tree.borrow m b p) = refl
  mark_stays (tree.share m e) = refl
  mark_stays (tree.build m w es) = refl
  mark_stays (tree.unit m) = refl
  mark_stays (tree.lazily m b e f) = refl
  mark_stays (tree.assign m p e) = refl
  mark_stays (tree.update m o p e) = refl
  mark_stays (tree.call m f es) = refl
  mark_stays (tree.input m) = refl
  mark_stays (tree.print m e) = refl
  mark_stays (tree.block m b) = refl
  mark_stays (tree.choose m s l) = refl
  mark_stays (tree.loop m l e) = refl
  mark_stays (tree.jump m l again) = refl
  mark_stays (tree.give m e) = refl

  subject_stays : (c : Scrutinee) → subject c ≡ subject (changed_matched C c)
  subject_stays (tree.at_place m p) = refl
  subject_stays (tree.of_value e) = ap (λ (m : Mark). subject_in (temporary_at m.node 0)) (sym (mark_stays e))

  -- in the run's block the text has its marks; another one is changed inside
  run_body : (t : Bool) (b : Body) → t ≡ true → marked_body A.run A.home.around.loops k.params b ≡ (if t then marked_body A.run A.home.around.loops k.params b else changed_body C b)
  run_body true b q = refl
  run_body false b q = absurd (true≢false (sym q))

  other_body : (t : Bool) (b : Body) → t ≡ false → changed_body C b ≡ (if t then marked_body A.run A.home.around.loops k.params b else changed_body C b)
  other_body true b q = absurd (true≢false q)
  other_body false b q = refl

  module _ {items : ℕ → ℕ} {O : Openings} {gain : Allowance} {V : Facts} where
    mutual
      pub caller : {i : ℕ} {J : Jumping} {N : Renaming} {e e' : Exp} (l : LikeExp items (in_its_block A S.muts_there k items O gain) gain V i J N e e') → ExpCalls S A k l → (R : KnownVariables S) → Agrees S N R → AgreesOnLoops S J R → AlikeExp S R e' (changed C e)
      caller (opens a i h (run_block {m = m} {m' = m'} {b = b} {b' = b'} q t) l) s R g j = subst (λ c. AlikeExp S R (tree.block m' b') (tree.block m c)) (run_body (m.node == A.run.block) b q) (s R g j)
      caller {N = N} (reads {v = f} {v' = z} l) s R g j = alike.reads (λ d t. read_copy S N R g l f z s d t)
      caller {N = N} (borrows {b = b} l) s R g j = alike.borrows (λ d t. borrow_copy S N R g l b b d t)
      caller (views h) s R g j = s R g j
      caller (shares l) s R g j = alike.shares (caller l s R g j)
      caller (builds f l) s R g j = alike.builds (caller_all l s R g j)
      caller (builds_structs f l) s R g j = alike.builds (caller_all l s R g j)
      caller (builds_variants f l) s R g j = alike.builds (caller_all l s R g j)
      caller units s R g j = alike.units
      caller (lazies i n h a b) s R g j = alike.lazies (caller a s.0 R g j) (caller b s.1 R g j)
      caller {N = N} (assigns p l) s R g j = alike.assigns (λ d t. write_copy S N R g p d t) (caller l s R g j)
      caller {N = N} (updates p q l) s R g j = alike.updates (λ d t. read_copy S N R g p false false s.0 d t) (λ d t. write_copy S N R g q d t) (caller l s.1 R g j)
      caller (calls l) s R g j = alike.calls (caller_all l s R g j)
      caller inputs s R g j = alike.inputs
      caller (prints l) s R g j = alike.prints (caller l s R g j)
      caller (blocks {m = m} {m' = m'} {b = b} {b' = b'} l) s R g j = subst (λ c. AlikeExp S R (tree.block m' b') (tree.block m c)) (other_body (m.node == A.run.block) b s.0) (alike.blocks (caller_body l s.1 R g j))
      caller (chooses {c = c} i n h m l) s R g j = alike.chooses (caller_matched m s.0 R g j) (caller_arms l s.1 (subject_stays c) R g j)
      caller {J = J} {N = N} (loops {l = n} {l' = m} f p q l) s R g j =
          alike.loops (inside_it S J R j n m f s.0) (caller l s.1 (in_it S J R j n m f s.0) (agrees_in_it S J R j n m f s.0 N g) (loops_in_it S J R j n m f s.0))
      caller (stays {l = n} {l' = m} {again = b} h) s R g j = alike.jumps b (j.known n m h)
      caller (gives h l) s R g j = alike.gives (caller l s R g j)

      caller_all : {i : ℕ} {J : Jumping} {N : Renaming} {es es' : Operands} (l : LikeAll items (in_its_block A S.muts_there k items O gain) gain V i J N es es') → AllCall S A k l → (R : KnownVariables S) → Agrees S N R → AgreesOnLoops S J R → AlikeAll S R es' (changed_all C es)
      caller_all no_operands s R g j = alike.no_operands
      caller_all (operands_and i n h a l) s R g j = alike.operands_and (caller a s.0 R g j) (caller_all l s.1 R g j)

      caller_matched : {i : ℕ} {J : Jumping} {N : Renaming} {c c' : Scrutinee} (l : LikeMatched items (in_its_block A S.muts_there k items O gain) gain V i J N c c') → MatchedCalls S A k l → (R : KnownVariables S) → Agrees S N R → AgreesOnLoops S J R → AlikeMatched S R c' (changed_matched C c)
      caller_matched at_places s R g j = alike.at_places
      caller_matched (of_values l) s R g j = alike.of_values (caller l s R g j)

      caller_arms : {i : ℕ} {J : Jumping} {N : Renaming} {c c' : Scrutinee} {l l' : Arms} (a : LikeArms items (in_its_block A S.muts_there k items O gain) gain V i J N c c' l l') → ArmsCall S A k a → {X : Subject} → subject c ≡ X → (R : KnownVariables S) → Agrees S N R → AgreesOnLoops S J R
          → AlikeArms S (subject c') X R l' (changed_arms C l)
      caller_arms no_arms s q R g j = alike.no_arms
      caller_arms {J = J} {c' = c'} (arms_and {q = p} {q' = p'} M t b e l) s q R g j = let z = bindings_alike S V b s.0 R g in
          alike.arms_and (subst (λ X. AlikeTests R.variables (subject c') X (tests [] p') (tests [] p)) q (tests_alike S V t R g)) (subst (λ X. AlikeBindings S (subject c') X R (bindings [] p') (bindings [] p) z.0) q z.1)
          (caller e s.1 z.0 z.2 (same_loops S J R z.0 (bound_loops S z.1) j)) (caller_arms l s.2 q R g j)

      caller_body : {i : ℕ} {J : Jumping} {N : Renaming} {b b' : Body} (l : LikeBody items (in_its_block A S.muts_there k items O gain) gain V i J N b b') → BodyCalls S A k l → (R : KnownVariables S) → Agrees S N R → AgreesOnLoops S J R → AlikeBody S R b' (changed_body C b)
      caller_body (opens_in a i h o l) s R g j = absurd o
      caller_body (ends_in l) s R g j = alike.ends_in (caller l s R g j)
      caller_body (runs_on i n h a l) s R g j = alike.runs_on (caller a s.0 R g j) (caller_body l s.1 R g j)
      caller_body {J = J} (declares_all M d l) s R g j = let z = declared_alike S V d s.0 R g in alike.declares_all z.1 (caller_body l s.1 z.0 z.2 (same_loops S J R z.0 (declared_loops S z.1) j))
      caller_body {J = J} (lets_in {q = p} {q' = p'} {c = c} {c' = c'} M i n h m b l) s R g j = let z = bindings_alike S V b s.1 R g in
          alike.lets_in (caller_matched m s.0 R g j) (subst (λ X. AlikeBindings S (subject c') X R (bindings [] p') (bindings [] p) z.0) (subject_stays c) z.1) (caller_body l s.2 z.0 z.2 (same_loops S J R z.0 (bound_loops S z.1) j))
      caller_body (reads_place l) s R g j = s R g j
      caller_body (looks_behind x e a l) s R g j = s R g j
