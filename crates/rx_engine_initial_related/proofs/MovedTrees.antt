-- The run's statements in the new function are alike those of the text with all its marks, where what is asked besides holds along them.
use Rattle.std.proofs.Common.{◌≡◌, ◌≢◌, ℕ, Bool, true, false, if◌then◌else◌, List, [], ◌∷◌, Some, refl, sym, subst, ap}
use Rattle.rx_typed.specs.Tree as tree
use Rattle.rx_typed.specs.Tree.{Mark, Temporary, Exp, Operands, Scrutinee, Arms, Body, mark_of, temporary_of, temporary_at}
use Rattle.rx_typed_declarations.specs.Sizes.{Sized}
use Rattle.rx_lower_walks.specs.Matching.{bindings, tests}
use Rattle.rx_lower_walks.specs.Actions.{Subject, subject}
use Rattle.rx_lower_walks.specs.Actions.{in_temporary as subject_in}
use Rattle.rx_lower_walks.specs.Orders.{order}
use Rattle.rx_lower_walks.specs.Walks.{stopped, stops, acts, both, first}
use Rattle.rx_lower_walks.specs.Walks as walk
use Rattle.rx_exits_plan.specs.Points.{returns, jump_exit, Point, leaves}
use Rattle.rx_exits_plan.specs.Changed.{changed, changed_all, changed_matched, changed_arms, changed_body}
use Rattle.rx_exits_plan.specs.Marked.{is_among, shown, mark_then, marking}
use Rattle.rx_exits_plan.specs.Asked.{Asked}
use Rattle.rx_exits_plan.specs.Plan.{Plan}
use Rattle.rx_meaning_keeping.proofs.Parts.{parted}
use Rattle.rx_engine_simulation.specs.Turns.{Allowance}
use Rattle.rx_engine_simulation.specs.Histories.{Facts}
use Rattle.rx_engine_simulation.specs.Sights.{Renaming}
use Rattle.rx_engine_simulation.specs.Jumps.{Jumping, in_loop}
use Rattle.rx_engine_simulation.specs.Like.{LikeExp, opens, reads, borrows, views, shares, builds, builds_structs, builds_variants, units, lazies, assigns, updates, calls, inputs, prints, blocks, chooses, loops, stays, gives, LikeAll, no_operands, operands_and, LikeMatched, at_places, of_values, LikeArms, no_arms, arms_and, LikeBody, opens_in, ends_in, runs_on, declares_all, lets_in, reads_place, looks_behind}
use Rattle.rx_engine_related.specs.ByForm.{IsItself}
use Rattle.rx_engine_related.specs.Had.{Had}
use Rattle.rx_engine_related.specs.Leaving.{HaveThere, left, left_by_jump, left_by_return, left_with_value, left_with_unit}
use Rattle.rx_engine_related.specs.Running.{passing}
use Rattle.rx_engine_initial.specs.Variables.{Sides, KnownVariables}
use Rattle.rx_engine_initial.specs.Planned.{IsTextOf, MeetsMark}
use Rattle.rx_engine_initial_forms.specs.Binders.{AlikeTests, AlikeBindings}
use Rattle.rx_engine_initial_forms.specs.Alike as alike
use Rattle.rx_engine_initial_forms.specs.Alike.{AlikeExp, AlikeAll, AlikeMatched, AlikeArms, AlikeBody}
use Rattle.rx_engine_initial_forms.specs.Agreeing.{Agrees}
use Rattle.rx_engine_initial_forms.specs.Following.{AgreesOnLoops}
use Rattle.rx_engine_initial_forms.proofs.Places.{read_copy, borrow_copy, write_copy}
use Rattle.rx_engine_initial_forms.proofs.Begun.{declared_alike, bindings_alike, tests_alike}
use Rattle.rx_engine_initial_forms.proofs.Forms.{exp_matches}
use Rattle.rx_engine_initial_forms.proofs.Following.{declared_loops, bound_loops, same_loops, in_it, inside_it, loops_in_it, agrees_in_it}
use Rattle.rx_engine_initial_related.specs.AlsoMarked.{AlsoMarked, read_too, borrow_too, share_too, build_too, unit_too, lazily_too, assign_too, update_too, call_too, input_too, print_too, block_too, choose_too, loop_too, jump_too, give_too, AlsoMarkedAll, none_too, and_too, AlsoMarkedMatched, place_too, value_too, AlsoMarkedArms, no_arm_too, arm_too, AlsoMarkedBody, ends_too, runs_too, declares_too, lets_too}
use Rattle.rx_engine_initial_related.specs.Moving.{LeavesBy, ExpMoves, AllMove, MatchedMoves, ArmsMove, BodyMoves}
use Rattle.rx_engine_initial_related.proofs.NewExits.{new_exit_matches}
use Rattle.rx_engine_initial_related.proofs.Returned.{value_returns, unit_returns}

-- ---- both texts are of one tree

module _ (ls : List ℕ) where
  mutual
    pub also_marked : (e : Exp) → AlsoMarked (changed (passing ls) e) (changed (marking ls) e)
    also_marked (tree.read m v p) = read_too
    also_marked (tree.borrow m b p) = borrow_too
    also_marked (tree.share m e) = share_too (also_marked e)
    also_marked (tree.build m w es) = build_too (also_all es)
    also_marked (tree.unit m) = unit_too
    also_marked (tree.lazily m b e f) = lazily_too (also_marked e) (also_marked f)
    also_marked (tree.assign m p e) = assign_too (also_marked e)
    also_marked (tree.update m o p e) = update_too (also_marked e)
    also_marked (tree.call m f es) = call_too (also_all es)
    also_marked (tree.input m) = input_too
    also_marked (tree.print m e) = print_too (also_marked e)
    also_marked (tree.block m b) = block_too (also_body b)
    also_marked (tree.choose m s l) = choose_too (also_matched s) (also_arms l)
    also_marked (tree.loop m l e) = loop_too (also_marked e)
    also_marked (tree.jump m l again) = by (is_among l ls)
      where
        by : (t : Bool) → AlsoMarked (if t then mark_then (leaves (jump_exit l again)) (tree.jump m l again) else tree.jump m l again) (if t then mark_then (leaves (jump_exit l again)) (tree.jump m l again) else tree.jump m l again)
        by true = block_too (runs_too (build_too none_too) (ends_too jump_too))
        by false = jump_too
    also_marked (tree.give m e) = give_too (also_marked e)

    also_all : (es : Operands) → AlsoMarkedAll (changed_all (passing ls) es) (changed_all (marking ls) es)
    also_all tree.no_operand = none_too
    also_all (tree.operand_and i e es) = and_too (also_marked e) (also_all es)

    pub also_matched : (s : Scrutinee) → AlsoMarkedMatched (changed_matched (passing ls) s) (changed_matched (marking ls) s)
    also_matched (tree.at_place m p) = place_too
    also_matched (tree.of_value e) = value_too (also_marked e)

    also_arms : (l : Arms) → AlsoMarkedArms (changed_arms (passing ls) l) (changed_arms (marking ls) l)
    also_arms tree.no_arm = no_arm_too
    also_arms (tree.arm_and p e l) = arm_too (also_marked e) (also_arms l)

    also_body : (b : Body) → AlsoMarkedBody (changed_body (passing ls) b) (changed_body (marking ls) b)
    also_body (tree.ends e) = ends_too (also_marked e)
    also_body (tree.runs e b) = runs_too (also_marked e) (also_body b)
    also_body (tree.declares s xs b) = declares_too (also_body b)
    also_body (tree.lets s p c b) = lets_too (also_matched c) (also_body b)

marks_same : {e x : Exp} → AlsoMarked e x → mark_of x ≡ mark_of e
marks_same read_too = refl
marks_same borrow_too = refl
marks_same (share_too u) = refl
marks_same (build_too u) = refl
marks_same unit_too = refl
marks_same (lazily_too u v) = refl
marks_same (assign_too u) = refl
marks_same (update_too u) = refl
marks_same (call_too u) = refl
marks_same input_too = refl
marks_same (print_too u) = refl
marks_same (block_too u) = refl
marks_same (choose_too u v) = refl
marks_same (loop_too u) = refl
marks_same jump_too = refl
marks_same (give_too u) = refl

pub subjects_same : {c x : Scrutinee} → AlsoMarkedMatched c x → subject c ≡ subject x
subjects_same place_too = refl
subjects_same (value_too u) = ap (λ (m : Mark). subject_in (temporary_at m.node 0)) (sym (marks_same u))

-- a mark in front is met
pub mark_met : (S : Sides) (p : Point) (e : Exp) (t : Temporary) → MeetsMark S p (order (mark_then p e) t)
mark_met S p e t w r = r (shown p ∷ []) stopped (first tt (stops (both {us = []} {vs = shown p ∷ []} walk.nothing acts)))

not_returned : (n : ℕ) (again : Bool) → jump_exit n again ≢ returns
not_returned n true q = cc
not_returned n false q = cc

-- ---- along the relation

module _ (S : Sides) (A : Asked) (k : Plan) (had : Had A S.muts_there k) (self : IsItself (Some (Some A.function))) (sized : Sized S.frame.declared S.frame.sizes) (sized_there : Sized S.frame_there.declared S.frame_there.sizes) (text : IsTextOf S A k) where
  inside_loop : {J : Jumping} (l j : ℕ) → LeavesBy k J → LeavesBy k (in_loop J l j)
  inside_loop l j v = record { exits = v.exits; outs = v.outs; no_return = v.no_return }

  module _ {items : ℕ → ℕ} {U : List ℕ} {gain : Allowance} {V : Facts} where
    mutual
      pub moved : {i : ℕ} {J : Jumping} {N : Renaming} {e e' : Exp} (l : LikeExp items (left U) gain V i J N e e') → ExpMoves S l → LeavesBy k J → {x : Exp} → AlsoMarked e x → (R : KnownVariables S) → Agrees S N R → AgreesOnLoops S J R → AlikeExp S R e' x
      moved {J = J} {N = N} (opens a i h (left_by_jump {m = m} {m' = m'} {l = n} {again = b} {zs = zs} p q have g) l) s v (block_too (runs_too (build_too none_too) (ends_too jump_too))) R ag j =
          alike.is_opened (λ d t. new_exit_matches A k S had self (jump_exit n b) (v.exits n b p q) (not_returned n b) sized text N R ag (subst (λ xs. HaveThere N xs zs) (v.outs n b p q) have) g
          (order (mark_then (leaves (jump_exit n b)) (tree.jump m n b)) t) (mark_met S (leaves (jump_exit n b)) (tree.jump m n b) t) m' d)
      moved {N = N} (opens a i h (left_by_return {m' = m'} q g) l) s v {x = x} u R ag j = alike.is_opened (λ d t. unit_returns S (parted S.frame sized) (parted S.frame_there sized_there) R N ag g (order x t) m' d)
      moved (opens {e' = e'} a i h (left_with_value {m = m} {m' = m'} {w = w} {i = n} {v = c} q) l) s v (give_too {f = x} u) R ag j =
          alike.is_opened (λ d t. value_returns S (parted S.frame sized) (parted S.frame_there sized_there) R (leaves returns) m' m w n c e' x (exp_matches S (moved l s v u R ag j) (temporary_of e') (temporary_of x)) d t)
      moved (opens a i h (left_with_unit q c n g) l) s v {x = x} u R ag j = s x u R ag j
      moved {N = N} (reads {v = f} {v' = z} l) s v read_too R ag j = alike.reads (λ d t. read_copy S N R ag l f z s d t)
      moved {N = N} (borrows {b = b} l) s v borrow_too R ag j = alike.borrows (λ d t. borrow_copy S N R ag l b b d t)
      moved (views h) s v borrow_too R ag j = s R ag j
      moved (shares l) s v (share_too u) R ag j = alike.shares (moved l s v u R ag j)
      moved (builds f l) s v (build_too u) R ag j = alike.builds (moved_all l s v u R ag j)
      moved (builds_structs f l) s v (build_too u) R ag j = alike.builds (moved_all l s v u R ag j)
      moved (builds_variants f l) s v (build_too u) R ag j = alike.builds (moved_all l s v u R ag j)
      moved units s v unit_too R ag j = alike.units
      moved (lazies i n h a b) s v (lazily_too u w) R ag j = alike.lazies (moved a s.0 v u R ag j) (moved b s.1 v w R ag j)
      moved {N = N} (assigns p l) s v (assign_too u) R ag j = alike.assigns (λ d t. write_copy S N R ag p d t) (moved l s v u R ag j)
      moved {N = N} (updates p q l) s v (update_too u) R ag j = alike.updates (λ d t. read_copy S N R ag p false false s.0 d t) (λ d t. write_copy S N R ag q d t) (moved l s.1 v u R ag j)
      moved (calls l) s v (call_too u) R ag j = alike.calls (moved_all l s v u R ag j)
      moved inputs s v input_too R ag j = alike.inputs
      moved (prints l) s v (print_too u) R ag j = alike.prints (moved l s v u R ag j)
      moved (blocks l) s v (block_too u) R ag j = alike.blocks (moved_body l s v u R ag j)
      moved (chooses i n h c l) s v (choose_too u w) R ag j = alike.chooses (moved_matched c s.0 v u R ag j) (moved_arms l s.1 v (subjects_same u) w R ag j)
      moved {J = J} {N = N} (loops {l = n} {l' = m} f p q l) s v (loop_too u) R ag j =
          alike.loops (inside_it S J R j n m f s.0) (moved l s.1 (inside_loop n m v) u (in_it S J R j n m f s.0) (agrees_in_it S J R j n m f s.0 N ag) (loops_in_it S J R j n m f s.0))
      moved (stays {l = n} {l' = m} {again = b} h) s v jump_too R ag j = alike.jumps b (j.known n m h)
      moved (gives h l) s v u R ag j = absurd (v.no_return h)

      moved_all : {i : ℕ} {J : Jumping} {N : Renaming} {es es' : Operands} (l : LikeAll items (left U) gain V i J N es es') → AllMove S l → LeavesBy k J → {x : Operands} → AlsoMarkedAll es x → (R : KnownVariables S) → Agrees S N R → AgreesOnLoops S J R → AlikeAll S R es' x
      moved_all no_operands s v none_too R ag j = alike.no_operands
      moved_all (operands_and i n h a l) s v (and_too u w) R ag j = alike.operands_and (moved a s.0 v u R ag j) (moved_all l s.1 v w R ag j)

      pub moved_matched : {i : ℕ} {J : Jumping} {N : Renaming} {c c' : Scrutinee} (l : LikeMatched items (left U) gain V i J N c c') → MatchedMoves S l → LeavesBy k J → {x : Scrutinee} → AlsoMarkedMatched c x → (R : KnownVariables S) → Agrees S N R → AgreesOnLoops S J R → AlikeMatched S R c' x
      moved_matched at_places s v place_too R ag j = alike.at_places
      moved_matched (of_values l) s v (value_too u) R ag j = alike.of_values (moved l s v u R ag j)

      moved_arms : {i : ℕ} {J : Jumping} {N : Renaming} {c c' : Scrutinee} {l l' : Arms} (a : LikeArms items (left U) gain V i J N c c' l l') → ArmsMove S a → LeavesBy k J → {X : Subject} → subject c ≡ X → {x : Arms} → AlsoMarkedArms l x → (R : KnownVariables S) → Agrees S N R → AgreesOnLoops S J R
          → AlikeArms S (subject c') X R l' x
      moved_arms no_arms s v q no_arm_too R ag j = alike.no_arms
      moved_arms {J = J} {c' = c'} (arms_and {q = p} {q' = p'} M t b e l) s v q (arm_too u w) R ag j = let z = bindings_alike S V b s.0 R ag in
          alike.arms_and (subst (λ X. AlikeTests R.variables (subject c') X (tests [] p') (tests [] p)) q (tests_alike S V t R ag)) (subst (λ X. AlikeBindings S (subject c') X R (bindings [] p') (bindings [] p) z.0) q z.1)
          (moved e s.1 v u z.0 z.2 (same_loops S J R z.0 (bound_loops S z.1) j)) (moved_arms l s.2 v q w R ag j)

      pub moved_body : {i : ℕ} {J : Jumping} {N : Renaming} {b b' : Body} (l : LikeBody items (left U) gain V i J N b b') → BodyMoves S l → LeavesBy k J → {x : Body} → AlsoMarkedBody b x → (R : KnownVariables S) → Agrees S N R → AgreesOnLoops S J R → AlikeBody S R b' x
      moved_body (opens_in a i h o l) s v u R ag j = absurd o
      moved_body (ends_in l) s v (ends_too u) R ag j = alike.ends_in (moved l s v u R ag j)
      moved_body (runs_on i n h a l) s v (runs_too u w) R ag j = alike.runs_on (moved a s.0 v u R ag j) (moved_body l s.1 v w R ag j)
      moved_body {J = J} (declares_all M d l) s v (declares_too u) R ag j = let z = declared_alike S V d s.0 R ag in alike.declares_all z.1 (moved_body l s.1 v u z.0 z.2 (same_loops S J R z.0 (declared_loops S z.1) j))
      moved_body {J = J} (lets_in {q = p} {q' = p'} {c = c} {c' = c'} M i n h m b l) s v (lets_too u w) R ag j = let z = bindings_alike S V b s.1 R ag in
          alike.lets_in (moved_matched m s.0 v u R ag j) (subst (λ X. AlikeBindings S (subject c') X R (bindings [] p') (bindings [] p) z.0) (subjects_same u) z.1) (moved_body l s.2 v w z.0 z.2 (same_loops S J R z.0 (bound_loops S z.1) j))
      moved_body (reads_place l) s v {x = x} u R ag j = s x u R ag j
      moved_body (looks_behind x e a l) s v {x = z} u R ag j = s z u R ag j
