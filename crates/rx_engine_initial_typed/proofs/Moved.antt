-- So it is of the run's statements in the new function.
use Rattle.std.proofs.Common.{ℕ, List, [], refl}
use Rattle.rx_typed.specs.Tree.{Temporary, Exp, Operands, Scrutinee, Arms, Body, mark_of, temporary_of, temporary_at}
use Rattle.rx_lower_walks.specs.Matching.{tests, bindings}
use Rattle.rx_lower_walks.specs.Actions.{Read, subject, at_mark}
use Rattle.rx_lower_walks.specs.Orders.{Order, testing, binding, order_all, order_scrutinee, order_arms, order_body}
use Rattle.rx_lower_walks.specs.Orders as order
use Rattle.rx_lower_walks.specs.Walks.{here}
use Rattle.rx_engine_simulation.specs.Turns.{Allowance}
use Rattle.rx_engine_simulation.specs.Histories.{Facts}
use Rattle.rx_engine_simulation.specs.Sights.{Renaming}
use Rattle.rx_engine_simulation.specs.Jumps.{Jumping}
use Rattle.rx_engine_simulation.specs.Like.{LikeExp, opens, reads, borrows, views, shares, builds, builds_structs, builds_variants, units, lazies, assigns, updates, calls, inputs, prints, blocks, chooses, loops, stays, gives, LikeAll, no_operands, operands_and, LikeMatched, at_places, of_values, LikeArms, no_arms, arms_and, LikeBody, opens_in, ends_in, runs_on, declares_all, lets_in, reads_place, looks_behind}
use Rattle.rx_engine_related.specs.Leaving.{left, left_by_jump, left_by_return, left_with_value, left_with_unit}
use Rattle.rx_engine_simulation.specs.Blocks.{Stretch, before}
use Rattle.rx_engine_related.specs.Moved.{Moved, moved_all, moved_statement, moved_declaration, moved_let, moved_read, moved_look}
use Rattle.rx_engine_blocks.specs.Renumbering.{Renumbering}
use Rattle.rx_engine_initial.specs.Variables.{Sides}
use Rattle.rx_engine_initial_related.specs.Moving.{ExpMoves, AllMove, MatchedMoves, ArmsMove, BodyMoves, StretchMoves}
use Rattle.rx_engine_initial_typed.specs.SameTypes.{DeclaresAlike, TypedScope}
use Rattle.rx_engine_initial_typed.specs.ByType.{ReadsByType}
use Rattle.rx_engine_initial_typed.specs.OfTypes.{in_new_function, ExpOfTypes, AllOfTypes, MatchedOfTypes, ArmsOfTypes, BodyOfTypes, StretchOfTypes}
use Rattle.rx_engine_initial_typed.proofs.Moves.{of_first, of_second, of_one, of_tested, of_next, of_pass, behind_bindings, behind_declared, behind_tests, moves_so, copied_so, declared_so, bindings_so}

module _ (r : Renumbering) (S : Sides) (alike : DeclaresAlike r S.frame_there S.frame) where
  abbrev There : Order → Type 0
  There s = ReadsByType S.frame_there s

  abbrev Here : Order → Type 0
  Here s = ReadsByType S.frame s

  abbrev Typed : Renaming → Type 0
  Typed N = TypedScope r S N

  module _ {items : ℕ → ℕ} {U : List ℕ} {gain : Allowance} {V : Facts} where
    mutual
      pub exp_moves : {i : ℕ} {J : Jumping} {N : Renaming} {e e' : Exp} (l : LikeExp items (left U) gain V i J N e e') → ExpOfTypes r S (in_new_function S) l → Typed N
          → (d t : Temporary) → There (order.order e d) → Here (order.order e' t) → ExpMoves S l
      exp_moves (opens a i h (left_by_jump p q v c) l) s n d u f g = tt
      exp_moves (opens a i h (left_by_return q c) l) s n d u f g = tt
      exp_moves (opens {e = e} {e' = e'} a i h (left_with_value q) l) s n d u f g = exp_moves l s n (temporary_of e) (temporary_of e') (of_first f) (of_first (of_first (of_first g)))
      exp_moves (opens a i h (left_with_unit q v w c) l) s n d u f g = s
      exp_moves {N = N} (reads {m = m} {m' = m'} {v = v} {v' = z} {p = p} {p' = q} l) s n d u f g =
          moves_so r S alike N n l v z (λ x h. f.each (at_mark m (Read v p d)) x p v d here refl h) (λ y h. g.each (at_mark m' (Read z q u)) y q z u here refl h)
      exp_moves (borrows l) s n d u f g = tt
      exp_moves (views h) s n d u f g = s
      exp_moves (shares {m = m} {m' = m'} {e = e} {e' = e'} l) s n d u f g = exp_moves l s n (temporary_at m.node 1) (temporary_at m'.node 1) (of_first f) (of_first g)
      exp_moves (builds {es = es} {es' = es'} h l) s n d u f g = all_move l s n (of_first f) (of_first g)
      exp_moves (builds_structs {es = es} {es' = es'} h l) s n d u f g = all_move l s n (of_first f) (of_first g)
      exp_moves (builds_variants {es = es} {es' = es'} h l) s n d u f g = all_move l s n (of_first f) (of_first g)
      exp_moves units s n d u f g = tt
      exp_moves (lazies {e = e} {f = h} {e' = e'} {f' = h'} i j q a b) s n d u f g = (
        exp_moves a s.0 n (temporary_of e) (temporary_of e') (of_first f) (of_first g),
        exp_moves b s.1 n (temporary_of h) (temporary_of h')
            (of_one (of_first (of_second (of_second f))))
            (of_one (of_first (of_second (of_second g)))),
      )
      exp_moves (assigns {e = e} {e' = e'} p l) s n d u f g = exp_moves l s n (temporary_of e) (temporary_of e') (of_first f) (of_first g)
      exp_moves (updates {e = e} {e' = e'} p q l) s n d u f g = (copied_so r S alike p, exp_moves l s n (temporary_of e) (temporary_of e') (of_first f) (of_first g))
      exp_moves (calls {es = es} {es' = es'} l) s n d u f g = all_move l s n (of_first f) (of_first g)
      exp_moves inputs s n d u f g = tt
      exp_moves (prints {e = e} {e' = e'} l) s n d u f g = exp_moves l s n (temporary_of e) (temporary_of e') (of_first f) (of_first g)
      exp_moves (blocks {m = m} {m' = m'} l) s n d u f g = body_moves l s.1 n m.node m'.node d u f g
      exp_moves (chooses {c = c} {c' = c'} {l = l} {l' = l'} i j h a b) s n d u f g = (
        matched_moves a s.0 n (of_first f) (of_first g),
        arms_move b s.1 n d u (of_second f) (of_second g),
      )
      exp_moves (loops {e = e} {e' = e'} h i j l) s n d u f g = (s.0, exp_moves l s.1 n (temporary_of e) (temporary_of e') (of_pass f) (of_pass g))
      exp_moves (stays h) s n d u f g = tt
      exp_moves (gives {e = e} {e' = e'} h l) s n d u f g = exp_moves l s n (temporary_of e) (temporary_of e') (of_first f) (of_first g)

      all_move : {i : ℕ} {J : Jumping} {N : Renaming} {es es' : Operands} (l : LikeAll items (left U) gain V i J N es es') → AllOfTypes r S (in_new_function S) l → Typed N → There (order_all es) → Here (order_all es') → AllMove S l
      all_move no_operands s n f g = tt
      all_move (operands_and {e = e} {e' = e'} {es = es} {es' = es'} i j h a l) s n f g = (
        exp_moves a s.0 n (temporary_of e) (temporary_of e') (of_first f) (of_first g),
        all_move l s.1 n (of_second f) (of_second g),
      )

      matched_moves : {i : ℕ} {J : Jumping} {N : Renaming} {c c' : Scrutinee} (l : LikeMatched items (left U) gain V i J N c c') → MatchedOfTypes r S (in_new_function S) l → Typed N → There (order_scrutinee c) → Here (order_scrutinee c') → MatchedMoves S l
      matched_moves at_places s n f g = tt
      matched_moves (of_values {e = e} {e' = e'} l) s n f g = exp_moves l s n (temporary_of e) (temporary_of e') f g

      arms_move : {i : ℕ} {J : Jumping} {N : Renaming} {c c' : Scrutinee} {l l' : Arms} (a : LikeArms items (left U) gain V i J N c c' l l') → ArmsOfTypes r S (in_new_function S) a → Typed N
          → (d t : Temporary) → There (order_arms (subject c) l d) → Here (order_arms (subject c') l' t) → ArmsMove S a
      arms_move no_arms s n d u f g = tt
      arms_move {c = c} {c' = c'} (arms_and {q = p} {q' = p'} {e = e} {e' = e'} {l = l} {l' = l'} M t b h a) s n d u f g =
          let x = behind_tests (subject c) (tests [] p) (binding (subject c) (bindings [] p) (mark_of e).node (order.order e d)) (of_tested f) in
          let y = behind_tests (subject c') (tests [] p') (binding (subject c') (bindings [] p') (mark_of e').node (order.order e' u)) (of_tested g) in
          let z = bindings_so r S alike b s.0 n (mark_of e).node (mark_of e').node (order.order e d) (order.order e' u) x y in (
            z.0,
            exp_moves h s.1 z.1 d u (behind_bindings (subject c) (bindings [] p) (mark_of e).node (order.order e d) x) (behind_bindings (subject c') (bindings [] p') (mark_of e').node (order.order e' u) y),
            arms_move a s.2 n d u (of_next f) (of_next g),
          )

      pub body_moves : {i : ℕ} {J : Jumping} {N : Renaming} {b b' : Body} (l : LikeBody items (left U) gain V i J N b b') → BodyOfTypes r S (in_new_function S) l → Typed N
          → (n m : ℕ) (d t : Temporary) → There (order_body b n d) → Here (order_body b' m t) → BodyMoves S l
      body_moves (opens_in a x h o l) s n i j d u f g = absurd o
      body_moves (ends_in l) s n i j d u f g = exp_moves l s n d u f g
      body_moves (runs_on {e = e} {e' = e'} {b = b} {b' = b'} x y h a l) s n i j d u f g = (
        exp_moves a s.0 n (temporary_of e) (temporary_of e') (of_first f) (of_first g),
        body_moves l s.1 n i j d u (of_second f) (of_second g),
      )
      body_moves (declares_all {s = x} {s' = y} {xs = xs} {ys = ys} {b = b} {b' = b'} M c l) s n i j d u f g =
          let z = declared_so r S alike c s.0 n in (z.0, body_moves l s.1 z.1 i j d u (behind_declared x xs i (order_body b i d) f) (behind_declared y ys j (order_body b' j u) g))
      body_moves (lets_in {q = p} {q' = p'} {c = c} {c' = c'} {b = b} {b' = b'} M x y h a w l) s n i j d u f g =
          let v = of_second f in
          let v' = of_second g in
          let z = bindings_so r S alike w s.1 n i j (order_body b i d) (order_body b' j u) v v' in (
            matched_moves a s.0 n (of_first f) (of_first g),
            z.0,
            body_moves l s.2 z.1 i j d u (behind_bindings (subject c) (bindings [] p) i (order_body b i d) v) (behind_bindings (subject c') (bindings [] p') j (order_body b' j u) v'),
          )
      body_moves (reads_place l) s n i j d u f g = s
      body_moves (looks_behind x e a l) s n i j d u f g = s

  -- statement by statement, in front of anything
  pub stretch_moves : {items : ℕ → ℕ} {gain : Allowance} {U : List ℕ} {special : List ℕ} {J : Jumping} {N M : Renaming} {s s' : Stretch} (m : Moved items gain U special J N s s' M) → StretchOfTypes r S m → Typed N
      → (b b' : Body) (i j : ℕ) (d t : Temporary) → There (order_body (before s b) i d) → Here (order_body (before s' b') j t) → StretchMoves S m × Typed M
  stretch_moves moved_all s n b b' i j d u f g = (tt, n)
  stretch_moves (moved_statement {e = e} {e' = e'} l m) s n b b' i j d u f g =
      let z = stretch_moves m s.1 n b b' i j d u (of_second f) (of_second g) in ((exp_moves l s.0 n (temporary_of e) (temporary_of e') (of_first f) (of_first g), z.0), z.1)
  stretch_moves (moved_declaration {n = x} {n' = y} {xs = xs} {ys = ys} {r = q} {r' = q'} c m) s n b b' i j d u f g =
      let w = declared_so r S alike c s.0 n in
      let z = stretch_moves m s.1 w.1 b b' i j d u (behind_declared x xs i (order_body (before q b) i d) f) (behind_declared y ys j (order_body (before q' b') j u) g) in ((w.0, z.0), z.1)
  stretch_moves (moved_let {q = p} {q' = p'} {c = c} {c' = c'} {r = q} {r' = q'} a w m) s n b b' i j d u f g =
      let v = of_second f in
      let v' = of_second g in
      let x = bindings_so r S alike w s.1 n i j (order_body (before q b) i d) (order_body (before q' b') j u) v v' in
      let z = stretch_moves m s.2 x.1 b b' i j d u (behind_bindings (subject c) (bindings [] p) i (order_body (before q b) i d) v) (behind_bindings (subject c') (bindings [] p') j (order_body (before q' b') j u) v') in
      ((matched_moves a s.0 n (of_first f) (of_first g), x.0, z.0), z.1)
  stretch_moves (moved_read m) s n b b' i j d u f g = absurd s
  stretch_moves (moved_look x h a m) s n b b' i j d u f g = absurd s
