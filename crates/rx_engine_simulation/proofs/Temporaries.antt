-- What an expression does that makes nothing of the temporary of its value is a walk of it, whichever temporary that is.
use Rattle.std.proofs.Common.{◌≡◌, ℕ, zero, suc, Bool, true, false, nat_eq, List, [], ◌∷◌, refl, ap, ap₂, subst, if◌then◌else◌}
use Rattle.rx_typed.specs.Tree as tree
use Rattle.rx_typed.specs.Tree.{Exp, Arms, Body, Temporary, mark_of, temporary_of}
use Rattle.rx_lower_walks.specs.Matching.{PartTest, Binding, tests, bindings}
use Rattle.rx_lower_walks.specs.Actions.{Subject, subject}
use Rattle.rx_lower_walks.specs.Orders as orders
use Rattle.rx_lower_walks.specs.Orders.{Order, Exit, breaks, continues, returns, order, order_arms, order_body, order_scrutinee, testing, binding, declaring}
use Rattle.rx_meaning.specs.Values.{Value, number, truth, whole, tagged, pointer, lacking, State}
use Rattle.rx_meaning.specs.Results.{Result, on, jumps, stops, after}
use Rattle.rx_meaning.specs.Patterns.{decided, tested, closed, bound, begun}
use Rattle.rx_meaning.specs.Expressions.{Functions, take_turn, turn_at, passed, value, arms, body, below_level}
use Rattle.rx_meaning.proofs.Sequences.{bind_same}
use Rattle.rx_engine_simulation.specs.Temporaries.{Forgets, forgets_unit, forgets_assignment, forgets_update, forgets_print, forgets_block, forgets_choice, forgets_loop, forgets_jump, forgets_return, ArmsForget, no_arm_forgets, each_forgets, BodyForgets, tail_forgets, forgets_behind_run, forgets_behind_declaration, forgets_behind_let}
use Rattle.rx_engine_simulation.proofs.Told.{Told, followed}
use Rattle.rx_engine_simulation.proofs.Positions.{IsWalked, value_walk_to}

-- ---- what goes on in the same way

decided_same : (v : Value) (go other go' other' : State → Result (Told ℕ) Value) (s : State) → ((s : State) → go s ≡ go' s) → ((s : State) → other s ≡ other' s) → decided v go other s ≡ decided v go' other' s
unfolding decided
decided_same (truth true) go other go' other' s k l = k s
decided_same (truth false) go other go' other' s k l = l s
decided_same (number a z) go other go' other' s k l = refl
decided_same (whole vs) go other go' other' s k l = refl
decided_same (tagged i vs) go other go' other' s k l = refl
decided_same (pointer i ss m) go other go' other' s k l = refl
decided_same (lacking a) go other go' other' s k l = refl

tested_same : (S : Subject) (vs : List Value) (ts : List PartTest) (go next go' next' : State → Result (Told ℕ) Value) (s : State) → ((s : State) → go s ≡ go' s) → ((s : State) → next s ≡ next' s) → tested followed S vs ts go next s ≡ tested followed S vs ts go' next' s
unfolding tested
tested_same S vs [] go next go' next' s k l = k s
tested_same S vs (t ∷ ts) go next go' next' s k l = bind_same _ _ _ _ refl (λ v s1. decided_same v _ _ _ _ s1 (λ s2. tested_same S vs ts go next go' next' s2 k l) l)

bound_same : (S : Subject) (vs : List Value) (bs : List Binding) (n : ℕ) (go go' : State → Result (Told ℕ) Value) (s : State) → ((s : State) → go s ≡ go' s) → bound followed S vs bs n go s ≡ bound followed S vs bs n go' s
unfolding bound
bound_same S vs [] n go go' s k = k s
bound_same S vs (b ∷ bs) n go go' s k =
    bind_same _ _ _ _ refl (λ ws s1. bind_same _ _ _ _ refl (λ u s2. bind_same _ _ _ _ refl (λ w s3. ap (λ r. closed followed n b.variable r) (bound_same S vs bs n go go' s3 k))))

begun_same : (i : ℕ) (xs : List ℕ) (n : ℕ) (go go' : State → Result (Told ℕ) Value) (s : State) → ((s : State) → go s ≡ go' s) → begun followed i xs n go s ≡ begun followed i xs n go' s
unfolding begun
begun_same i [] n go go' s k = k s
begun_same i (x ∷ xs) n go go' s k = bind_same _ _ _ _ refl (λ u s1. ap (λ r. closed followed n x r) (begun_same i xs n go go' s1 k))

turn_same : (s : State) (go go' : State → Result (Told ℕ) Value) → ((s : State) → go s ≡ go' s) → take_turn s go ≡ take_turn s go'
unfolding take_turn
turn_same s go go' k = by s.turns
  where
    by : (n : ℕ) → turn_at n s go ≡ turn_at n s go'
    by zero = refl
    by (suc n) = k _

again_same : (b : Bool) (w : List (Told ℕ)) (r r' q : Result (Told ℕ) Value) → r ≡ r' → (if b then after w r else q) ≡ (if b then after w r' else q)
again_same b w r r' q e = ap (λ r. if b then after w r else q) e

passed_same : (l : ℕ) (r : Result (Told ℕ) Value) (again again' : State → Result (Told ℕ) Value) → ((s : State) → again s ≡ again' s) → passed l r again ≡ passed l r again'
unfolding passed
passed_same l (on w v s) again again' k = ap (λ r. after w r) (k s)
passed_same l (jumps w (breaks n i) v s) again again' k = refl
passed_same l (jumps w (continues n i) v s) again again' k = again_same (nat_eq i l) w (again s) (again' s) (jumps w (continues n i) v s) (k s)
passed_same l (jumps w (returns n) v s) again again' k = refl
passed_same l (stops w e) again again' k = refl

-- ---- orders

binding_same : (S : Subject) (bs : List Binding) (n : ℕ) (o o' : Order) → o ≡ o' → binding S bs n o ≡ binding S bs n o'
binding_same S bs n o o' e = ap (λ o. binding S bs n o) e

mutual
  order_same : {e : Exp} → Forgets e → (t t' : Temporary) → order e t ≡ order e t'
  order_same forgets_unit t t' = refl
  order_same forgets_assignment t t' = refl
  order_same forgets_update t t' = refl
  order_same forgets_print t t' = refl
  order_same (forgets_block {m = m} k) t t' = body_order_same k m.node t t'
  order_same (forgets_choice {c = c} k) t t' = ap (λ o. orders.then (order_scrutinee c) o) (arms_order_same k (subject c) t t')
  order_same forgets_loop t t' = refl
  order_same forgets_jump t t' = refl
  order_same forgets_return t t' = refl

  arms_order_same : {l : Arms} → ArmsForget l → (S : Subject) (t t' : Temporary) → order_arms S l t ≡ order_arms S l t'
  arms_order_same no_arm_forgets S t t' = refl
  arms_order_same (each_forgets {q = q} {e = e} k ks) S t t' = ap₂ (λ o u. orders.otherwise (testing S (tests [] q) (binding S (bindings [] q) (mark_of e).node o)) u) (order_same k t t') (arms_order_same ks S t t')

  body_order_same : {b : Body} → BodyForgets b → (n : ℕ) (t t' : Temporary) → order_body b n t ≡ order_body b n t'
  body_order_same (tail_forgets k) n t t' = order_same k t t'
  body_order_same (forgets_behind_run {e = e} k) n t t' = ap (λ o. orders.then (order e (temporary_of e)) o) (body_order_same k n t t')
  body_order_same (forgets_behind_declaration {n = i} {xs = xs} k) n t t' = ap (λ o. declaring i xs n o) (body_order_same k n t t')
  body_order_same (forgets_behind_let {q = q} {c = c} k) n t t' = ap (λ o. orders.then (order_scrutinee c) (binding (subject c) (bindings [] q) n o)) (body_order_same k n t t')

-- ---- runs

module _ (P : Functions) where
  module _ (m : ℕ) (below : (e : Exp) → Forgets e → (t t' : Temporary) (s : State) → below_level followed P m e t s ≡ below_level followed P m e t' s) where
    mutual
      unfolding value

      value_same : {e : Exp} → Forgets e → (t t' : Temporary) (s : State) → value followed P (below_level followed P m) e t s ≡ value followed P (below_level followed P m) e t' s
      value_same forgets_unit t t' s = refl
      value_same forgets_assignment t t' s = refl
      value_same forgets_update t t' s = refl
      value_same forgets_print t t' s = refl
      value_same (forgets_block {m = w} k) t t' s = body_same k w.node t t' s
      value_same (forgets_choice {c = c} k) t t' s = bind_same _ _ _ _ refl (λ vs s1. arms_same k (subject c) vs t t' s1)
      value_same (forgets_loop {m = w} {l = l} {e = e}) t t' s =
          turn_same s _ _ (λ s1. passed_same l (below_level followed P m e (temporary_of e) s1) _ _ (λ s2. below (tree.loop w l e) forgets_loop t t' s2))
      value_same forgets_jump t t' s = refl
      value_same forgets_return t t' s = refl

      arms_same : {l : Arms} → ArmsForget l → (S : Subject) (vs : List Value) (t t' : Temporary) (s : State) → arms followed P (below_level followed P m) S vs l t s ≡ arms followed P (below_level followed P m) S vs l t' s
      arms_same no_arm_forgets S vs t t' s = refl
      arms_same (each_forgets {q = q} {e = e} k ks) S vs t t' s =
          tested_same S vs (tests [] q) _ _ _ _ s (λ s1. bound_same S vs (bindings [] q) (mark_of e).node _ _ s1 (λ s2. value_same k t t' s2)) (λ s1. arms_same ks S vs t t' s1)

      body_same : {b : Body} → BodyForgets b → (n : ℕ) (t t' : Temporary) (s : State) → body followed P (below_level followed P m) b n t s ≡ body followed P (below_level followed P m) b n t' s
      body_same (tail_forgets k) n t t' s = value_same k t t' s
      body_same (forgets_behind_run k) n t t' s = bind_same _ _ _ _ refl (λ v s1. body_same k n t t' s1)
      body_same (forgets_behind_declaration {n = i} {xs = xs} k) n t t' s = begun_same i xs n _ _ s (λ s1. body_same k n t t' s1)
      body_same (forgets_behind_let {q = q} {c = c} k) n t t' s = bind_same _ _ _ _ refl (λ vs s1. bound_same (subject c) vs (bindings [] q) n _ _ s1 (λ s2. body_same k n t t' s2))

  below_same : (m : ℕ) (e : Exp) → Forgets e → (t t' : Temporary) (s : State) → below_level followed P m e t s ≡ below_level followed P m e t' s
  unfolding below_level
  below_same zero e k t t' s = refl
  below_same (suc m) e k t t' s = value_same m (below_same m) k t t' s

  pub forgets_walk : (m : ℕ) {e : Exp} → Forgets e → (t : Temporary) (s : State) → IsWalked (order e t) (value followed P (below_level followed P m) e t s)
  forgets_walk m {e} k t s =
      let there : Temporary = record { node = t.node; which = 0 } in
      subst (λ o. IsWalked o (value followed P (below_level followed P m) e t s)) (order_same k there t)
      (subst (λ r. IsWalked (order e there) r) (value_same m (below_same m) k there t s) (value_walk_to P m e there s refl))
