-- So what is asked of the caller besides is had, but for what types do not say.
use Rattle.std.proofs.Common.{◌≡◌, ℕ, ◌==◌, true, [], refl}
use Rattle.rx_typed.specs.Tree as tree
use Rattle.rx_typed.specs.Tree.{Mark, Temporary, Exp, Operands, Scrutinee, Arms, Body, mark_of, temporary_of, temporary_at}
use Rattle.rx_lower_walks.specs.Matching.{tests, bindings}
use Rattle.rx_lower_walks.specs.Actions.{Read, subject, at_mark}
use Rattle.rx_lower_walks.specs.Orders.{Order, testing, binding, order_all, order_scrutinee, order_arms, order_body}
use Rattle.rx_lower_walks.specs.Orders as order
use Rattle.rx_lower_walks.specs.Walks.{here}
use Rattle.rx_exits_plan.specs.Asked.{Asked}
use Rattle.rx_exits_plan.specs.Plan.{Plan}
use Rattle.rx_engine_simulation.specs.Turns.{Allowance}
use Rattle.rx_engine_simulation.specs.Histories.{Facts}
use Rattle.rx_engine_simulation.specs.Sights.{Renaming}
use Rattle.rx_engine_simulation.specs.Jumps.{Jumping}
use Rattle.rx_engine_simulation.specs.Openings.{Openings}
use Rattle.rx_engine_simulation.specs.Like.{LikeExp, opens, reads, borrows, views, shares, builds, builds_structs, builds_variants, units, lazies, assigns, updates, calls, inputs, prints, blocks, chooses, loops, stays, gives, LikeAll, no_operands, operands_and, LikeMatched, at_places, of_values, LikeArms, no_arms, arms_and, LikeBody, opens_in, ends_in, runs_on, declares_all, lets_in, reads_place, looks_behind}
use Rattle.rx_exits_plan.specs.Marked.{marked_body}
use Rattle.rx_engine_related.specs.AboutRun.{special_of}
use Rattle.rx_engine_related.specs.ByForm.{by_form}
use Rattle.rx_engine_related.specs.InBlock.{run_block, in_its_block}
use Rattle.rx_engine_related.specs.Running.{running_body}
use Rattle.rx_engine_blocks.specs.Renumbering.{Renumbering}
use Rattle.rx_engine_initial.specs.Variables.{Sides}
use Rattle.rx_engine_initial_forms.specs.Following.{ExpAsked}
use Rattle.rx_engine_initial_related.specs.Calling.{ExpCalls, AllCall, MatchedCalls, ArmsCall, BodyCalls}
use Rattle.rx_engine_initial_related.proofs.InBlocks.{OfParts, of_tests, of_bindings, of_declared}
use Rattle.rx_engine_initial_typed.specs.SameTypes.{DeclaresAlike, TypedScope}
use Rattle.rx_engine_initial_typed.specs.ByType.{ReadsByType}
use Rattle.rx_engine_initial_typed.specs.OfTypes.{AtBlock, in_caller_with, alike_there, in_caller, ExpOfTypes, AllOfTypes, MatchedOfTypes, ArmsOfTypes, BodyOfTypes}
use Rattle.rx_engine_initial_typed.proofs.Moves.{of_first, of_second, of_one, of_tested, of_next, of_pass, behind_bindings, behind_declared, behind_tests, moves_so, copied_so, declared_so, bindings_so}
use Rattle.rx_engine_initial_typed.proofs.MarkedReads.{parts_read}

module _ (r : Renumbering) (S : Sides) (alike : DeclaresAlike r S.frame_there S.frame) (A : Asked) (k : Plan) (Here : Order → Type 0) (C : OfParts Here) (R : (s : Order) → Here s → ReadsByType S.frame s) where
  abbrev There : Order → Type 0
  There s = ReadsByType S.frame_there s

  abbrev Typed : Renaming → Type 0
  Typed N = TypedScope r S N

  module _ {items : ℕ → ℕ} {O : Openings} {gain : Allowance} {V : Facts} (W : AtBlock A S.muts_there k items O gain)
      (at_opening : (a : ℕ) (J : Jumping) (N : Renaming) (b b' : Body) (m m' : Mark) (q : (m.node == A.run.block) ≡ true) (t : LikeBody items O gain (by_form (special_of A S.muts_there k)) a J N (running_body A.run A.home.around.loops k.params b) b') → W.asked (run_block {m = m} {m' = m'} q t)
      → TypedScope r S N → (u : Temporary) → Here (order_body b' m'.node u) → ExpAsked S J N (tree.block m' b') (tree.block m (marked_body A.run A.home.around.loops k.params b))) where
    mutual
      pub exp_calls_with : {i : ℕ} {J : Jumping} {N : Renaming} {e e' : Exp} (l : LikeExp items (in_its_block A S.muts_there k items O gain) gain V i J N e e') → ExpOfTypes r S (in_caller_with S A k W) l → Typed N
          → (d t : Temporary) → There (order.order e d) → Here (order.order e' t) → ExpCalls S A k l
      exp_calls_with (opens a i h (run_block {J = J} {R = M} {m = m} {m' = m'} {b = b} {b' = b'} q t) l) s n d u f g = at_opening a J M b b' m m' q t s n u g
      exp_calls_with {N = N} (reads {m = m} {m' = m'} {v = v} {v' = z} {p = p} {p' = q} l) s n d u f g =
          moves_so r S alike N n l v z (λ x h. f.each (at_mark m (Read v p d)) x p v d here refl h) (λ y h. (R _ g).each (at_mark m' (Read z q u)) y q z u here refl h)
      exp_calls_with (borrows l) s n d u f g = tt
      exp_calls_with (views h) s n d u f g = s
      exp_calls_with (shares {m = m} {m' = m'} {e = e} {e' = e'} l) s n d u f g = exp_calls_with l s n (temporary_at m.node 1) (temporary_at m'.node 1) (of_first f) (C.first g)
      exp_calls_with (builds {es = es} {es' = es'} h l) s n d u f g = all_call l s n (of_first f) (C.first g)
      exp_calls_with (builds_structs {es = es} {es' = es'} h l) s n d u f g = all_call l s n (of_first f) (C.first g)
      exp_calls_with (builds_variants {es = es} {es' = es'} h l) s n d u f g = all_call l s n (of_first f) (C.first g)
      exp_calls_with units s n d u f g = tt
      exp_calls_with (lazies {e = e} {f = h} {e' = e'} {f' = h'} i j q a b) s n d u f g = (
        exp_calls_with a s.0 n (temporary_of e) (temporary_of e') (of_first f) (C.first g),
        exp_calls_with b s.1 n (temporary_of h) (temporary_of h')
            (of_one (of_first (of_second (of_second f))))
            (C.one (C.first (C.second (C.second g)))),
      )
      exp_calls_with (assigns {e = e} {e' = e'} p l) s n d u f g = exp_calls_with l s n (temporary_of e) (temporary_of e') (of_first f) (C.first g)
      exp_calls_with (updates {e = e} {e' = e'} p q l) s n d u f g = (copied_so r S alike p, exp_calls_with l s n (temporary_of e) (temporary_of e') (of_first f) (C.first g))
      exp_calls_with (calls {es = es} {es' = es'} l) s n d u f g = all_call l s n (of_first f) (C.first g)
      exp_calls_with inputs s n d u f g = tt
      exp_calls_with (prints {e = e} {e' = e'} l) s n d u f g = exp_calls_with l s n (temporary_of e) (temporary_of e') (of_first f) (C.first g)
      exp_calls_with (blocks {m = m} {m' = m'} l) s n d u f g = (s.0, body_calls l s.1 n m.node m'.node d u f g)
      exp_calls_with (chooses {c = c} {c' = c'} {l = l} {l' = l'} i j h a b) s n d u f g = (
        matched_calls a s.0 n (of_first f) (C.first g),
        arms_call b s.1 n d u (of_second f) (C.second g),
      )
      exp_calls_with (loops {e = e} {e' = e'} h i j l) s n d u f g = (s.0, exp_calls_with l s.1 n (temporary_of e) (temporary_of e') (of_pass f) (C.pass g))
      exp_calls_with (stays h) s n d u f g = tt
      exp_calls_with (gives {e = e} {e' = e'} h l) s n d u f g = exp_calls_with l s n (temporary_of e) (temporary_of e') (of_first f) (C.first g)

      all_call : {i : ℕ} {J : Jumping} {N : Renaming} {es es' : Operands} (l : LikeAll items (in_its_block A S.muts_there k items O gain) gain V i J N es es') → AllOfTypes r S (in_caller_with S A k W) l → Typed N → There (order_all es) → Here (order_all es') → AllCall S A k l
      all_call no_operands s n f g = tt
      all_call (operands_and {e = e} {e' = e'} {es = es} {es' = es'} i j h a l) s n f g = (
        exp_calls_with a s.0 n (temporary_of e) (temporary_of e') (of_first f) (C.first g),
        all_call l s.1 n (of_second f) (C.second g),
      )

      matched_calls : {i : ℕ} {J : Jumping} {N : Renaming} {c c' : Scrutinee} (l : LikeMatched items (in_its_block A S.muts_there k items O gain) gain V i J N c c') → MatchedOfTypes r S (in_caller_with S A k W) l → Typed N → There (order_scrutinee c) → Here (order_scrutinee c') → MatchedCalls S A k l
      matched_calls at_places s n f g = tt
      matched_calls (of_values {e = e} {e' = e'} l) s n f g = exp_calls_with l s n (temporary_of e) (temporary_of e') f g

      arms_call : {i : ℕ} {J : Jumping} {N : Renaming} {c c' : Scrutinee} {l l' : Arms} (a : LikeArms items (in_its_block A S.muts_there k items O gain) gain V i J N c c' l l') → ArmsOfTypes r S (in_caller_with S A k W) a → Typed N
          → (d t : Temporary) → There (order_arms (subject c) l d) → Here (order_arms (subject c') l' t) → ArmsCall S A k a
      arms_call no_arms s n d u f g = tt
      arms_call {c = c} {c' = c'} (arms_and {q = p} {q' = p'} {e = e} {e' = e'} {l = l} {l' = l'} M t b h a) s n d u f g =
          let x = behind_tests (subject c) (tests [] p) (binding (subject c) (bindings [] p) (mark_of e).node (order.order e d)) (of_tested f) in
          let y = of_tests Here C (subject c') (tests [] p') (binding (subject c') (bindings [] p') (mark_of e').node (order.order e' u)) (C.tested g) in
          let z = bindings_so r S alike b s.0 n (mark_of e).node (mark_of e').node (order.order e d) (order.order e' u) x (R _ y) in (
            z.0,
            exp_calls_with h s.1 z.1 d u (behind_bindings (subject c) (bindings [] p) (mark_of e).node (order.order e d) x) (of_bindings Here C (subject c') (bindings [] p') (mark_of e').node (order.order e' u) y),
            arms_call a s.2 n d u (of_next f) (C.next g),
          )

      body_calls : {i : ℕ} {J : Jumping} {N : Renaming} {b b' : Body} (l : LikeBody items (in_its_block A S.muts_there k items O gain) gain V i J N b b') → BodyOfTypes r S (in_caller_with S A k W) l → Typed N
          → (n m : ℕ) (d t : Temporary) → There (order_body b n d) → Here (order_body b' m t) → BodyCalls S A k l
      body_calls (opens_in a x h o l) s n i j d u f g = absurd o
      body_calls (ends_in l) s n i j d u f g = exp_calls_with l s n d u f g
      body_calls (runs_on {e = e} {e' = e'} {b = b} {b' = b'} x y h a l) s n i j d u f g = (
        exp_calls_with a s.0 n (temporary_of e) (temporary_of e') (of_first f) (C.first g),
        body_calls l s.1 n i j d u (of_second f) (C.second g),
      )
      body_calls (declares_all {s = x} {s' = y} {xs = xs} {ys = ys} {b = b} {b' = b'} M c l) s n i j d u f g =
          let z = declared_so r S alike c s.0 n in (z.0, body_calls l s.1 z.1 i j d u (behind_declared x xs i (order_body b i d) f) (of_declared Here C y ys j (order_body b' j u) g))
      body_calls (lets_in {q = p} {q' = p'} {c = c} {c' = c'} {b = b} {b' = b'} M x y h a w l) s n i j d u f g =
          let v = of_second f in
          let v' = C.second g in
          let z = bindings_so r S alike w s.1 n i j (order_body b i d) (order_body b' j u) v (R _ v') in (
            matched_calls a s.0 n (of_first f) (C.first g),
            z.0,
            body_calls l s.2 z.1 i j d u (behind_bindings (subject c) (bindings [] p) i (order_body b i d) v) (of_bindings Here C (subject c') (bindings [] p') j (order_body b' j u) v'),
          )
      body_calls (reads_place l) s n i j d u f g = s
      body_calls (looks_behind x e a l) s n i j d u f g = s

-- where it is asked that the run's block is alike the text's
module _ (r : Renumbering) (S : Sides) (alike : DeclaresAlike r S.frame_there S.frame) (A : Asked) (k : Plan) {items : ℕ → ℕ} {O : Openings} {gain : Allowance} {V : Facts} where
  pub exp_calls : {i : ℕ} {J : Jumping} {N : Renaming} {e e' : Exp} (l : LikeExp items (in_its_block A S.muts_there k items O gain) gain V i J N e e') → ExpOfTypes r S (in_caller S A k) l → TypedScope r S N
      → (d t : Temporary) → ReadsByType S.frame_there (order.order e d) → ReadsByType S.frame (order.order e' t) → ExpCalls S A k l
  exp_calls l s n d t f g = exp_calls_with r S alike A k (ReadsByType S.frame) parts_read (λ s h. h) (alike_there S A k {items = items} {O = O} {gain = gain}) (λ a J N b c m m' q t s n u g. s) l s n d t f g
