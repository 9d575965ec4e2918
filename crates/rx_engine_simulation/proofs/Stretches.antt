-- Statements inside of the new function's body do what they do in the text, and what follows them.
use Rattle.std.proofs.Common.{◌≡◌, ℕ, ◌+◌, false, List, [], ◌++◌, Some, refl, sym, ◌∙◌, subst, arith, le_refl}
use Rattle.rx_typed.specs.Tree.{Temporary, Exp, Scrutinee, Body, temporary_of}
use Rattle.rx_lower_walks.specs.Matching.{Binding}
use Rattle.rx_lower_walks.specs.Actions.{Action, Subject}
use Rattle.rx_lower_walks.specs.Orders.{order, order_scrutinee, order_body}
use Rattle.rx_meaning.specs.Values.{Value, pointer, State}
use Rattle.rx_meaning.specs.Results.{Result}
use Rattle.rx_meaning.specs.Acting.{plainly}
use Rattle.rx_meaning.specs.Expressions.{Functions, value, matched, body, below_level}
use Rattle.rx_engine_simulation.specs.Variants.{leaving}
use Rattle.rx_engine_simulation.specs.Like.{LikeExp, LikeMatched, at_places, of_values}
use Rattle.rx_engine_simulation.specs.Arrivals.{Specials}
use Rattle.rx_engine_simulation.specs.Histories.{put}
use Rattle.rx_engine_simulation.specs.Blocks.{Stretch, before, declared_all, Through, through_none, through_run, through_declaration, through_let}
use Rattle.rx_engine_simulation.specs.Stretches.{LikeStretch, both_done, both_do, both_declare, both_let, only_marks, both_read, both_look}
use Rattle.rx_engine_simulation.proofs.Told.{followed}
use Rattle.rx_engine_simulation.proofs.Values.{Pair, Given, AllGiven, none_given, more_given}
use Rattle.rx_engine_simulation.proofs.States.{Direction, Allowance, gain, Facts, special, viewed, Sight, sight, Renaming, sight_of, Frozen, IsViewed, grown_trans}
use Rattle.rx_engine_simulation.proofs.Results.{Jumping, both_on, DoAlike, alike_bind}
use Rattle.rx_engine_simulation.proofs.Positions.{put_append, first_at, next_at, value_walk, matched_walk}
use Rattle.rx_engine_simulation.proofs.Parts.{Ready, go_on, less, stay}
use Rattle.rx_engine_simulation.proofs.Patterns.{LikeDeclared, none_new, new_and, LikeBindings, no_binding, binding_and}
use Rattle.rx_engine_simulation.proofs.Views.{place_body_is}
use Rattle.rx_engine_simulation.proofs.Behind.{behind_body_is}
use Rattle.rx_engine_simulation.proofs.Marks.{marks_alone}
use Rattle.rx_engine_simulation.proofs.Contexts.{older, Context, context_bind, Inside, AllExits, exits_at, outer_step, begun_inside, bound_inside}

declared_extends : {V : Facts} {R R1 : Renaming} {xs ys : List ℕ} → LikeDeclared V R xs ys R1 → (z : ℕ) (f : Sight) → sight_of R z ≡ Some f → sight_of R1 z ≡ Some f
declared_extends none_new z f e = e
declared_extends {V} {R} (new_and {x = x} {y = y} w k none u l) z f e = declared_extends l z f (older R x z (sight y w) f none e)

bindings_extend : {V : Facts} {S S' : Subject} {R R1 : Renaming} {bs bs' : List Binding} → LikeBindings V S S' R bs bs' R1 → (z : ℕ) (f : Sight) → sight_of R z ≡ Some f → sight_of R1 z ≡ Some f
bindings_extend no_binding z f e = e
bindings_extend {V} {S} {S'} {R} (binding_and {b = b} {b' = b'} w l way k none u rest) z f e = bindings_extend rest z f (older R b.variable z (sight b'.variable w) f none e)

pub stretch_extends : {items : ℕ → ℕ} {i : Allowance} {U : List ℕ} {V : Facts} {J : Jumping} {R Rb : Renaming} {r r' : Stretch} → LikeStretch items i U V J R r r' Rb → (z : ℕ) (f : Sight) → sight_of R z ≡ Some f → sight_of Rb z ≡ Some f
stretch_extends both_done z f e = e
stretch_extends (both_do l r) z f e = stretch_extends r z f e
stretch_extends (both_declare l r) z f e = stretch_extends r z f (declared_extends l z f e)
stretch_extends (both_let c l r) z f e = stretch_extends r z f (bindings_extend l z f e)
stretch_extends (only_marks p xs written l) z f e = stretch_extends l z f e
stretch_extends (both_read l) z f e = stretch_extends l z f e
stretch_extends (both_look x seen behind l) z f e = stretch_extends l z f e

module _ (items : ℕ → ℕ) (U : List ℕ) (P Q : Functions) (V : Facts) (d : Direction) (R : Renaming) (Z Z' : Frozen) (J : Jumping) (c0 : ℕ) (j0 : List Pair) (s0 s0' : State) (F : Result ℕ Value → Result ℕ Value) (context : Context F) (Zi Zi' : Frozen) (c m n : ℕ) (jb : List Pair) (sb sb' : State) (Ji : Jumping)
    (exps : (Ri : Renaming) (e e' : Exp) → LikeExp items (leaving U) (gain d) V 0 Ji Ri e e' → (t t' : Temporary) (h : List Action) (j : List Pair) (s s' : State) → Ready V d Ri Zi Zi' (0 + c) m n h j s s' → V.Comes (order e t) h
    → DoAlike V d Ri Zi Zi' Ji Given c h j s s' (value followed P (below_level followed P m) e t s) (value plainly Q (below_level plainly Q n) e' t' s')) where
  matches : (Ri : Renaming) (a b : Scrutinee) → LikeMatched items (leaving U) (gain d) V 0 Ji Ri a b → (h : List Action) (j : List Pair) (s s' : State) → Ready V d Ri Zi Zi' c m n h j s s' → V.Comes (order_scrutinee a) h
      → DoAlike V d Ri Zi Zi' Ji AllGiven c h j s s' (matched followed P (below_level followed P m) a s) (matched plainly Q (below_level plainly Q n) b s')
  unfolding value
  matches Ri a b at_places h j s s' r at = λ good. both_on j refl none_given (stay V d Ri Zi Zi' r)
  matches Ri a b (of_values {e = e} {e' = e'} l) h j s s' r at =
      alike_bind V d Ri Zi Zi' Ji Given AllGiven c c h j s s' _ _ _ _ (le_refl c) (exps Ri e e' l (temporary_of e) (temporary_of e') h j s s' (less V d Ri Zi Zi' (0 + c) (omega arith) r) at) (λ h1 j1 v v' u u' g z.
      λ good. both_on j1 refl (more_given g none_given) (stay V d Ri Zi Zi' (go_on V d Ri Zi Zi' r z)))

  pub stretch_inside : {R1 R2 : Renaming} {r r' : Stretch} → LikeStretch items (gain d) U V Ji R1 r r' R2 → Specials R R1 → (rest rest' : Body) (b b' : ℕ) (t t' : Temporary) (K : List Action → Type 0) → AllExits V d R Z Z' J c0 j0 s0 s0' F context Zi Zi' Ji c m n jb sb sb'
      → Inside V d R Z Z' J c0 j0 s0 s0' F context Zi Zi' Ji c m n jb sb sb' R2 (λ h. V.Comes (order_body rest b t) h × K h) (λ s. body followed P (below_level followed P m) rest b t s) (λ s. body plainly Q (below_level plainly Q n) rest' b' t' s)
      → Inside V d R Z Z' J c0 j0 s0 s0' F context Zi Zi' Ji c m n jb sb sb' R1 (λ h. V.Comes (order_body (before r rest) b t) h × ((w : List Action) → Through r w → K (put w h))) (λ s. body followed P (below_level followed P m) (before r rest) b t s) (λ s. body plainly Q (below_level plainly Q n) (before r' rest') b' t' s)
  unfolding value
  stretch_inside both_done sp rest rest' b b' t t' K all k h j s s' q g at = k h j s s' q g (at.0, at.1 [] through_none)
  stretch_inside {R1} {r = r1} (both_look {n = n0} {y = y} {m = w} {m' = w'} {w = mv} {q' = q'} {r' = r0'} x seen behind l) sp rest rest' b b' t t' K all k h j s s' q g at =
      let e : IsViewed Zi Zi' j s.frame s'.frame x y = q.inv.binds x (sight y viewed) seen in
      subst (λ x. DoAlike V d R Z Z' J Given c0 h j0 s0 s0' (body followed P (below_level followed P m) (before r1 rest) b t s) (F x)) (sym (behind_body_is Q (below_level plainly Q n) n0 q' w w' mv y e.right (pointer e.target.right e.steps false) (before r0' rest') b' t' s' behind e.at_answer (q.inv.paired.frozen' e.right (pointer e.target.right e.steps false) e.held') refl)) (stretch_inside l sp rest rest' b b' t t' K all k h j s s' q g at)
  stretch_inside {R1} {r = r1} (both_read {n = n0} {k = kb} {z = z} {y = y} {m = w} {m' = w'} {v = v} {w = mv} {r' = r0'} l) sp rest rest' b b' t t' K all k h j s s' q g at =
      subst (λ x. DoAlike V d R Z Z' J Given c0 h j0 s0 s0' (body followed P (below_level followed P m) (before r1 rest) b t s) (F x)) (sym (place_body_is Q (below_level plainly Q n) kb z y v (before r0' rest') b' t' n0 w w' mv s')) (stretch_inside l sp rest rest' b b' t t' K all k h j s s' q g at)
  stretch_inside {R1} (only_marks {r = r0} {r' = r0'} p xs written l) sp rest rest' b b' t t' K all k h j s s' q g at =
      marks_alone P m V d R1 Zi Zi' c n j s s' (λ h r. DoAlike V d R Z Z' J Given c0 h j0 s0 s0' r (F (body plainly Q (below_level plainly Q n) (before r0' rest') b' t' s'))) (λ a h r k. outer_step V d R Z Z' J c0 j0 s0 s0' F context h a r _ k)
      r0 rest b t p xs h q at.0 written (λ w ready at1 th. stretch_inside l sp rest rest' b b' t t' K all k (put w h) j s s' ready g (at1, λ v f. subst K (put_append w v h) (at.1 (w ++ v) (th v f))))
  stretch_inside {R1} (both_do {e = e} {e' = e'} l r) sp rest rest' b b' t t' K all k h j s s' q g at =
      context_bind V d R Z Z' J c0 j0 s0 s0' F context R1 Zi Zi' Ji c Given h j s s' _ _ _ _ (order e (temporary_of e)) (value_walk P m e s) (exps R1 e e' l (temporary_of e) (temporary_of e') h j s s' (less V d R1 Zi Zi' (0 + c) (omega arith) q) (first_at V at.0)) (λ h1 j1 v v' u u' k1 f z.
      stretch_inside r sp rest rest' b b' t t' K all k h1 j1 u u' (go_on V d R1 Zi Zi' q z) (grown_trans jb j j1 sb sb' s s' u u' g z.grown) (next_at V at.0 k1, λ w th. subst (λ h1. K (put w h1)) (sym k1.1) (subst K (put_append k1.0 w h) (at.1 (k1.0 ++ w) (through_run k1.2 th)))))
      (exits_at V d R Z Z' J c0 j0 s0 s0' F context Zi Zi' Ji c m n jb sb sb' all R1 sp h j s s' q g)
  stretch_inside {R1} (both_declare {n = i} {n' = i'} {xs = xs} {r = r0} l r) sp rest rest' b b' t t' K all k h j s s' q g at =
      begun_inside V d R Z Z' J c0 j0 s0 s0' F context Zi Zi' Ji c m n jb sb sb' l i i' b b' (order_body (before r0 rest) b t) (λ h. (w : List Action) → Through r0 w → K (put w h)) _ _
      (λ h1 j1 u u' q1 g1 at1. stretch_inside r (λ x y seen. let a = sp x y seen in (a.0, declared_extends l x (sight a.0 special) a.1)) rest rest' b b' t t' K all k h1 j1 u u' q1 g1 at1) h j s s' q g
      (at.0, λ w th. subst K (put_append (declared_all i xs) w h) (at.1 (declared_all i xs ++ w) (through_declaration th)))
  stretch_inside {R1} (both_let {c = a} {c' = a'} {r = r0} lc lb r) sp rest rest' b b' t t' K all k h j s s' q g at =
      context_bind V d R Z Z' J c0 j0 s0 s0' F context R1 Zi Zi' Ji c AllGiven h j s s' _ _ _ _ (order_scrutinee a) (matched_walk P m a s) (matches R1 a a' lc h j s s' q (first_at V at.0)) (λ h1 j1 vs vs' u u' k1 f z.
      bound_inside V d R Z Z' J c0 j0 s0 s0' F context Zi Zi' Ji c m n jb sb sb' lb all sp b b' (order_body (before r0 rest) b t) (λ h. (w : List Action) → Through r0 w → K (put w h)) _ _
      (λ h2 j2 x x' q2 g2 at2. stretch_inside r (λ x y seen. let a = sp x y seen in (a.0, bindings_extend lb x (sight a.0 special) a.1)) rest rest' b b' t t' K all k h2 j2 x x' q2 g2 at2) vs vs' h1 j1 u u' f (go_on V d R1 Zi Zi' q z) (grown_trans jb j j1 sb sb' s s' u u' g z.grown) (next_at V at.0 k1)
      (λ v bs w th. subst (λ h1. K (put w (put v h1))) (sym k1.1) (subst K (put_append k1.0 (v ++ w) h ∙ put_append v w (put k1.0 h)) (at.1 (k1.0 ++ (v ++ w)) (through_let k1.2 bs th)))))
      (exits_at V d R Z Z' J c0 j0 s0 s0' F context Zi Zi' Ji c m n jb sb sb' all R1 sp h j s s' q g)
