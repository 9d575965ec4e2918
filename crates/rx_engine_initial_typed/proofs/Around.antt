-- So it is in front of the run in its block, and behind it.
use Rattle.std.proofs.Common.{ℕ, Bool, List, [], refl}
use Rattle.rx_typed.specs.Tree.{Temporary, Exp, Operands, Scrutinee, Arms, Body, mark_of, temporary_of, temporary_at}
use Rattle.rx_lower_walks.specs.Matching.{tests, bindings}
use Rattle.rx_lower_walks.specs.Actions.{Read, subject, at_mark}
use Rattle.rx_lower_walks.specs.Orders.{Order, testing, binding, order_all, order_scrutinee, order_arms, order_body}
use Rattle.rx_lower_walks.specs.Orders as order
use Rattle.rx_lower_walks.specs.Walks.{here}
use Rattle.rx_exits_plan.specs.Asked.{Asked}
use Rattle.rx_exits_plan.specs.Plan.{Plan}
use Rattle.rx_engine_simulation.specs.Turns.{Allowance}
use Rattle.rx_engine_simulation.specs.Histories.{Facts}
use Rattle.rx_engine_simulation.specs.Sights.{Renaming}
use Rattle.rx_engine_simulation.specs.Jumps.{Jumping}
use Rattle.rx_engine_simulation.specs.Like.{LikeExp, opens, reads, borrows, views, shares, builds, builds_structs, builds_variants, units, lazies, assigns, updates, calls, inputs, prints, blocks, chooses, loops, stays, gives, LikeAll, no_operands, operands_and, LikeMatched, at_places, of_values, LikeArms, no_arms, arms_and, LikeBody, opens_in, ends_in, runs_on, declares_all, lets_in, reads_place, looks_behind}
use Rattle.rx_modes_policy.specs.declared.uses.Mode.{Mode}
use Rattle.rx_engine_simulation.specs.Passing.{New}
use Rattle.rx_engine_related.specs.Standing.{the_call}
use Rattle.rx_engine_blocks.specs.Renumbering.{Renumbering}
use Rattle.rx_engine_initial.specs.Variables.{Sides}
use Rattle.rx_engine_initial_forms.specs.Following.{ExpSo, AllSo, MatchedSo, ArmsSo, BodySo}
use Rattle.rx_engine_initial_typed.specs.SameTypes.{DeclaresAlike, TypedScope}
use Rattle.rx_engine_initial_typed.specs.ByType.{ReadsByType}
use Rattle.rx_engine_initial_typed.specs.OfTypes.{around_call, ExpOfTypes, AllOfTypes, MatchedOfTypes, ArmsOfTypes, BodyOfTypes}
use Rattle.rx_engine_initial_typed.proofs.Moves.{of_first, of_second, of_one, of_tested, of_next, of_pass, behind_bindings, behind_declared, behind_tests, moves_so, copied_so, declared_so, bindings_so}

module _ (r : Renumbering) (S : Sides) (alike : DeclaresAlike r S.frame_there S.frame) (A : Asked) (k : Plan) where
  abbrev There : Order → Type 0
  There s = ReadsByType S.frame_there s

  abbrev Here : Order → Type 0
  Here s = ReadsByType S.frame s

  abbrev Typed : Renaming → Type 0
  Typed N = TypedScope r S N

  module _ {muts : List Bool} {modes : List Mode} {items : ℕ → ℕ} {U : List ℕ} {F : New} {gain : Allowance} {V : Facts} where
    mutual
      pub exp_so : {i : ℕ} {J : Jumping} {N : Renaming} {e e' : Exp} (l : LikeExp items (the_call A muts k modes items gain U F) gain V i J N e e') → ExpOfTypes r S (around_call S) l → Typed N
          → (d t : Temporary) → There (order.order e d) → Here (order.order e' t) → ExpSo S l
      exp_so (opens a i h o l) s n d u f g = absurd o
      exp_so {N = N} (reads {m = m} {m' = m'} {v = v} {v' = z} {p = p} {p' = q} l) s n d u f g =
          moves_so r S alike N n l v z (λ x h. f.each (at_mark m (Read v p d)) x p v d here refl h) (λ y h. g.each (at_mark m' (Read z q u)) y q z u here refl h)
      exp_so (borrows l) s n d u f g = tt
      exp_so (views h) s n d u f g = s
      exp_so (shares {m = m} {m' = m'} {e = e} {e' = e'} l) s n d u f g = exp_so l s n (temporary_at m.node 1) (temporary_at m'.node 1) (of_first f) (of_first g)
      exp_so (builds {es = es} {es' = es'} h l) s n d u f g = all_so l s n (of_first f) (of_first g)
      exp_so (builds_structs {es = es} {es' = es'} h l) s n d u f g = all_so l s n (of_first f) (of_first g)
      exp_so (builds_variants {es = es} {es' = es'} h l) s n d u f g = all_so l s n (of_first f) (of_first g)
      exp_so units s n d u f g = tt
      exp_so (lazies {e = e} {f = h} {e' = e'} {f' = h'} i j q a b) s n d u f g = (
        exp_so a s.0 n (temporary_of e) (temporary_of e') (of_first f) (of_first g),
        exp_so b s.1 n (temporary_of h) (temporary_of h')
            (of_one (of_first (of_second (of_second f))))
            (of_one (of_first (of_second (of_second g)))),
      )
      exp_so (assigns {e = e} {e' = e'} p l) s n d u f g = exp_so l s n (temporary_of e) (temporary_of e') (of_first f) (of_first g)
      exp_so (updates {e = e} {e' = e'} p q l) s n d u f g = (copied_so r S alike p, exp_so l s n (temporary_of e) (temporary_of e') (of_first f) (of_first g))
      exp_so (calls {es = es} {es' = es'} l) s n d u f g = all_so l s n (of_first f) (of_first g)
      exp_so inputs s n d u f g = tt
      exp_so (prints {e = e} {e' = e'} l) s n d u f g = exp_so l s n (temporary_of e) (temporary_of e') (of_first f) (of_first g)
      exp_so (blocks {m = m} {m' = m'} l) s n d u f g = body_so l s.1 n m.node m'.node d u f g
      exp_so (chooses {c = c} {c' = c'} {l = l} {l' = l'} i j h a b) s n d u f g = (
        matched_so a s.0 n (of_first f) (of_first g),
        arms_so b s.1 n d u (of_second f) (of_second g),
      )
      exp_so (loops {e = e} {e' = e'} h i j l) s n d u f g = (s.0, exp_so l s.1 n (temporary_of e) (temporary_of e') (of_pass f) (of_pass g))
      exp_so (stays h) s n d u f g = tt
      exp_so (gives {e = e} {e' = e'} h l) s n d u f g = exp_so l s n (temporary_of e) (temporary_of e') (of_first f) (of_first g)

      all_so : {i : ℕ} {J : Jumping} {N : Renaming} {es es' : Operands} (l : LikeAll items (the_call A muts k modes items gain U F) gain V i J N es es') → AllOfTypes r S (around_call S) l → Typed N → There (order_all es) → Here (order_all es') → AllSo S l
      all_so no_operands s n f g = tt
      all_so (operands_and {e = e} {e' = e'} {es = es} {es' = es'} i j h a l) s n f g = (
        exp_so a s.0 n (temporary_of e) (temporary_of e') (of_first f) (of_first g),
        all_so l s.1 n (of_second f) (of_second g),
      )

      pub matched_so : {i : ℕ} {J : Jumping} {N : Renaming} {c c' : Scrutinee} (l : LikeMatched items (the_call A muts k modes items gain U F) gain V i J N c c') → MatchedOfTypes r S (around_call S) l → Typed N → There (order_scrutinee c) → Here (order_scrutinee c') → MatchedSo S l
      matched_so at_places s n f g = tt
      matched_so (of_values {e = e} {e' = e'} l) s n f g = exp_so l s n (temporary_of e) (temporary_of e') f g

      arms_so : {i : ℕ} {J : Jumping} {N : Renaming} {c c' : Scrutinee} {l l' : Arms} (a : LikeArms items (the_call A muts k modes items gain U F) gain V i J N c c' l l') → ArmsOfTypes r S (around_call S) a → Typed N
          → (d t : Temporary) → There (order_arms (subject c) l d) → Here (order_arms (subject c') l' t) → ArmsSo S a
      arms_so no_arms s n d u f g = tt
      arms_so {c = c} {c' = c'} (arms_and {q = p} {q' = p'} {e = e} {e' = e'} {l = l} {l' = l'} M t b h a) s n d u f g =
          let x = behind_tests (subject c) (tests [] p) (binding (subject c) (bindings [] p) (mark_of e).node (order.order e d)) (of_tested f) in
          let y = behind_tests (subject c') (tests [] p') (binding (subject c') (bindings [] p') (mark_of e').node (order.order e' u)) (of_tested g) in
          let z = bindings_so r S alike b s.0 n (mark_of e).node (mark_of e').node (order.order e d) (order.order e' u) x y in (
            z.0,
            exp_so h s.1 z.1 d u (behind_bindings (subject c) (bindings [] p) (mark_of e).node (order.order e d) x) (behind_bindings (subject c') (bindings [] p') (mark_of e').node (order.order e' u) y),
            arms_so a s.2 n d u (of_next f) (of_next g),
          )

      pub body_so : {i : ℕ} {J : Jumping} {N : Renaming} {b b' : Body} (l : LikeBody items (the_call A muts k modes items gain U F) gain V i J N b b') → BodyOfTypes r S (around_call S) l → Typed N
          → (n m : ℕ) (d t : Temporary) → There (order_body b n d) → Here (order_body b' m t) → BodySo S l
      body_so (opens_in a x h o l) s n i j d u f g = s
      body_so (ends_in l) s n i j d u f g = exp_so l s n d u f g
      body_so (runs_on {e = e} {e' = e'} {b = b} {b' = b'} x y h a l) s n i j d u f g = (
        exp_so a s.0 n (temporary_of e) (temporary_of e') (of_first f) (of_first g),
        body_so l s.1 n i j d u (of_second f) (of_second g),
      )
      body_so (declares_all {s = x} {s' = y} {xs = xs} {ys = ys} {b = b} {b' = b'} M c l) s n i j d u f g =
          let z = declared_so r S alike c s.0 n in (z.0, body_so l s.1 z.1 i j d u (behind_declared x xs i (order_body b i d) f) (behind_declared y ys j (order_body b' j u) g))
      body_so (lets_in {q = p} {q' = p'} {c = c} {c' = c'} {b = b} {b' = b'} M x y h a w l) s n i j d u f g =
          let v = of_second f in
          let v' = of_second g in
          let z = bindings_so r S alike w s.1 n i j (order_body b i d) (order_body b' j u) v v' in (
            matched_so a s.0 n (of_first f) (of_first g),
            z.0,
            body_so l s.2 z.1 i j d u (behind_bindings (subject c) (bindings [] p) i (order_body b i d) v) (behind_bindings (subject c') (bindings [] p') j (order_body b' j u) v'),
          )
      body_so (reads_place l) s n i j d u f g = s
      body_so (looks_behind x e a l) s n i j d u f g = s
