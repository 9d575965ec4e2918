-- Two ways to act that give the same values, states and ends, and tell what is so related, give runs that are alike: by recursion
-- on the typed tree, and on the turns.
use Rattle.std.proofs.Common.{ℕ, zero, suc, Bool, true, false, nat_eq, List, [], ◌∷◌, ◌++◌, Option, Some, None, if◌then◌else◌}
use Rattle.rx_typed.specs.Tree.{Temporary, Exp, read, borrow, share, build, unit, lazily, assign, update, call, input, print, block, choose, loop, jump, give, Operands, no_operand, operand_and, Scrutinee, at_place, of_value, Arms, no_arm, arm_and, Body, ends, runs, declares, lets, Parameter, Function, temporary_of}
use Rattle.rx_lower_walks.specs.Matching.{PartTest, Binding, tests, bindings}
use Rattle.rx_lower_walks.specs.Actions.{Act, Action, Subject, subject, taken}
use Rattle.rx_lower_walks.specs.Orders.{Exit, breaks, continues, returns}
use Rattle.rx_meaning.specs.Endings.{Ending}
use Rattle.rx_meaning.specs.Values.{Value, truth, Frame, new_frame, State, element}
use Rattle.rx_meaning.specs.Results as results
use Rattle.rx_meaning.specs.Results.{Done, gives, Result, on, jumps, stops, after, bind, result_of}
use Rattle.rx_meaning.specs.Acting.{Acting, performed}
use Rattle.rx_meaning.specs.Patterns.{decided, tested, closed, took, bound, begun}
use Rattle.rx_meaning.specs.Expressions.{Functions, Meaning, turn_at, take_turn, passed_by, passed, back_in, returned, with_arguments, activation, found, value, values, matched, arms, body, below_level, called}
use Rattle.rx_meaning.specs.Telling.{Alike, alike_on, alike_jump, alike_stop}

pub data DoneAlike {E F : Type 0} (T : List E → List F → Type 0) : Done E → Done F → Type 0 where
  gave : {w : List E} {u : List F} {v : Value} {s : State} → T w u → DoneAlike T (gives w v s) (gives u v s)
  ended : {w : List E} {u : List F} {e : Ending} → T w u → DoneAlike T (results.ends w e) (results.ends u e)

module _ {E F : Type 0} (T : List E → List F → Type 0) (nil : T [] []) (join : (w x : List E) (u y : List F) → T w u → T x y → T (w ++ x) (u ++ y)) where
  after_alike : {A : Type 0} (w : List E) (u : List F) (r : Result E A) (q : Result F A) → T w u → Alike T r q → Alike T (after w r) (after u q)
  unfolding after
  after_alike w u _ _ k (alike_on t) = alike_on (join _ _ _ _ k t)
  after_alike w u _ _ k (alike_jump t) = alike_jump (join _ _ _ _ k t)
  after_alike w u _ _ k (alike_stop t) = alike_stop (join _ _ _ _ k t)

  bind_alike : {A B : Type 0} {r : Result E A} {q : Result F A} {go : A → State → Result E B} {go' : A → State → Result F B} → Alike T r q → ((a : A) (s : State) → Alike T (go a s) (go' a s)) → Alike T (bind r go) (bind q go')
  unfolding bind
  bind_alike (alike_on t) k = after_alike _ _ _ _ t (k _ _)
  bind_alike (alike_jump t) k = alike_jump t
  bind_alike (alike_stop t) k = alike_stop t

  result_alike : {r : Done E} {q : Done F} → DoneAlike T r q → Alike T (result_of r) (result_of q)
  unfolding result_of
  result_alike (gave t) = alike_on t
  result_alike (ended t) = alike_stop t

  decided_alike : (v : Value) (go other : State → Result E Value) (go' other' : State → Result F Value) (s : State) → ((s1 : State) → Alike T (go s1) (go' s1)) → ((s1 : State) → Alike T (other s1) (other' s1)) → Alike T (decided v go other s) (decided v go' other' s)
  unfolding decided
  decided_alike (truth true) go other go' other' s h k = h s
  decided_alike (truth false) go other go' other' s h k = k s
  decided_alike _ go other go' other' s h k = alike_stop nil

  turn_alike : (s : State) (go : State → Result E Value) (go' : State → Result F Value) → ((s1 : State) → Alike T (go s1) (go' s1)) → Alike T (take_turn s go) (take_turn s go')
  unfolding take_turn
  turn_alike s go go' h = by s.turns
    where
      by : (t : ℕ) → Alike T (turn_at t s go) (turn_at t s go')
      by zero = alike_stop nil
      by (suc t) = h _

  if_alike : (b : Bool) (r q : Result E Value) (r' q' : Result F Value) → Alike T r r' → Alike T q q' → Alike T (if b then r else q) (if b then r' else q')
  if_alike true r q r' q' h k = h
  if_alike false r q r' q' h k = k

  jump_alike : (l : ℕ) (w : List E) (u : List F) (x : Exit) (v : Value) (s : State) (go : State → Result E Value) (go' : State → Result F Value) → T w u → ((s1 : State) → Alike T (go s1) (go' s1)) → Alike T (passed_by l w x v s go) (passed_by l u x v s go')
  jump_alike l w u (breaks n k) v s go go' t h = if_alike (nat_eq k l) _ _ _ _ (alike_on t) (alike_jump t)
  jump_alike l w u (continues n k) v s go go' t h = if_alike (nat_eq k l) _ _ _ _ (after_alike w u _ _ t (h s)) (alike_jump t)
  jump_alike l w u (returns n) v s go go' t h = alike_jump t

  passed_alike : (l : ℕ) (r : Result E Value) (q : Result F Value) (go : State → Result E Value) (go' : State → Result F Value) → Alike T r q → ((s1 : State) → Alike T (go s1) (go' s1)) → Alike T (passed l r go) (passed l q go')
  unfolding passed
  passed_alike l _ _ go go' (alike_on t) h = after_alike _ _ _ _ t (h _)
  passed_alike l _ _ go go' (alike_jump t) h = jump_alike l _ _ _ _ _ go go' t h
  passed_alike l _ _ go go' (alike_stop t) h = alike_stop t

  found_alike : (f : Option (Option Function)) (go : Function → Result E Value) (go' : Function → Result F Value) → ((g : Function) → Alike T (go g) (go' g)) → Alike T (found f go) (found f go')
  found_alike (Some (Some f)) go go' h = h f
  found_alike None go go' h = alike_stop nil
  found_alike (Some None) go go' h = alike_stop nil

  module _ (A : Acting E) (B : Acting F) (inners : (w : List E) (u : List F) → T w u → T (A.inner w) (B.inner u)) (alike : (a : Action) (vs : List Value) (s : State) → DoneAlike T (A.perform a vs s) (B.perform a vs s)) where
    does_alike : (a : Action) (vs : List Value) (s : State) → Alike T (performed A a vs s) (performed B a vs s)
    does_alike a vs s = result_alike (alike a vs s)

    closed_alike : (n x : ℕ) (r : Result E Value) (q : Result F Value) → Alike T r q → Alike T (closed A n x r) (closed B n x q)
    unfolding closed
    closed_alike n x _ _ (alike_on t) = after_alike _ _ _ _ t (bind_alike (does_alike _ _ _) (λ u s1. alike_on nil))
    closed_alike n x _ _ (alike_jump t) = after_alike _ _ _ _ t (bind_alike (does_alike _ _ _) (λ u s1. alike_jump nil))
    closed_alike n x _ _ (alike_stop t) = alike_stop t

    took_alike : (n : ℕ) (a : Option Act) (vs : List Value) (s : State) → Alike T (took A n a vs s) (took B n a vs s)
    unfolding took
    took_alike n None vs s = alike_on nil
    took_alike n (Some a) vs s = bind_alike (does_alike _ _ _) (λ v s1. alike_on nil)

    bound_alike : (S : Subject) (vs : List Value) (bs : List Binding) (n : ℕ) (go : State → Result E Value) (go' : State → Result F Value) (s : State) → ((s1 : State) → Alike T (go s1) (go' s1)) → Alike T (bound A S vs bs n go s) (bound B S vs bs n go' s)
    unfolding bound
    bound_alike S vs [] n go go' s h = h s
    bound_alike S vs (b ∷ bs) n go go' s h =
        bind_alike (took_alike b.node (taken S b) vs s) (λ ws s1. bind_alike (does_alike _ _ _) (λ u s2. bind_alike (does_alike _ _ _) (λ w s3. closed_alike _ _ _ _ (bound_alike S vs bs n go go' s3 h))))

    begun_alike : (i : ℕ) (xs : List ℕ) (n : ℕ) (go : State → Result E Value) (go' : State → Result F Value) (s : State) → ((s1 : State) → Alike T (go s1) (go' s1)) → Alike T (begun A i xs n go s) (begun B i xs n go' s)
    unfolding begun
    begun_alike i [] n go go' s h = h s
    begun_alike i (x ∷ xs) n go go' s h = bind_alike (does_alike _ _ _) (λ u s1. closed_alike _ _ _ _ (begun_alike i xs n go go' s1 h))

    tested_alike : (S : Subject) (vs : List Value) (ts : List PartTest) (go other : State → Result E Value) (go' other' : State → Result F Value) (s : State) → ((s1 : State) → Alike T (go s1) (go' s1)) → ((s1 : State) → Alike T (other s1) (other' s1)) → Alike T (tested A S vs ts go other s) (tested B S vs ts go' other' s)
    unfolding tested
    tested_alike S vs [] go other go' other' s h k = h s
    tested_alike S vs (t ∷ ts) go other go' other' s h k = bind_alike (does_alike _ _ _) (λ v s1. decided_alike v _ _ _ _ s1 (λ s2. tested_alike S vs ts go other go' other' s2 h k) k)

    back_alike : (G : Frame) (w : List E) (u : List F) (x : Exit) (v : Value) (s : State) → T w u → Alike T (back_in G w x v s) (back_in G u x v s)
    back_alike G w u (breaks n k) v s t = alike_stop t
    back_alike G w u (continues n k) v s t = alike_stop t
    back_alike G w u (returns n) v s t = alike_on t

    returned_alike : (G : Frame) (r : Result E Value) (q : Result F Value) → Alike T r q → Alike T (returned A G r) (returned B G q)
    unfolding returned
    returned_alike G _ _ (alike_on t) = alike_stop (inners _ _ t)
    returned_alike G _ _ (alike_jump t) = back_alike G _ _ _ _ _ (inners _ _ t)
    returned_alike G _ _ (alike_stop t) = alike_stop (inners _ _ t)

    arguments_alike : (ps : List Parameter) (n : ℕ) (vs : List Value) (go : State → Result E Value) (go' : State → Result F Value) (s : State) → ((s1 : State) → Alike T (go s1) (go' s1)) → Alike T (with_arguments A ps n vs go s) (with_arguments B ps n vs go' s)
    unfolding with_arguments
    arguments_alike [] n [] go go' s h = h s
    arguments_alike [] n (v ∷ vs) go go' s h = alike_stop nil
    arguments_alike (p ∷ ps) n [] go go' s h = alike_stop nil
    arguments_alike (p ∷ ps) n (v ∷ vs) go go' s h = bind_alike (does_alike _ _ _) (λ u s1. bind_alike (does_alike _ _ _) (λ w s2. closed_alike _ _ _ _ (arguments_alike ps n vs go go' s2 h)))

    AllAlike : Meaning E → Meaning F → Type 0
    AllAlike low low' = (e : Exp) (d : Temporary) (s : State) → Alike T (low e d s) (low' e d s)

    activation_alike : (low : Meaning E) (low' : Meaning F) → AllAlike low low' → (f : Function) (vs : List Value) (s : State) → Alike T (activation A low f vs s) (activation B low' f vs s)
    unfolding AllAlike
    activation_alike low low' h f vs s = arguments_alike f.params _ vs _ _ s (λ s1. h f.body _ s1)

    mutual
      unfolding value AllAlike

      value_alike : (P : Functions) (low : Meaning E) (low' : Meaning F) → AllAlike low low' → (e : Exp) (d : Temporary) (s : State) → Alike T (value A P low e d s) (value B P low' e d s)
      value_alike P low low' h (read m v p) d s = does_alike _ _ _
      value_alike P low low' h (build m w es) d s = bind_alike (values_alike P low low' h es s) (λ vs s1. does_alike _ _ _)
      value_alike P low low' h (lazily m b e f) d s =
          bind_alike (value_alike P low low' h e _ s) (λ v s1. bind_alike (does_alike _ _ _) (λ t s2. bind_alike (decided_alike t _ _ _ _ s2 (λ s3. value_alike P low low' h f _ s3) (λ s3. alike_on nil)) (λ w s4. does_alike _ _ _)))
      value_alike P low low' h (borrow m k p) d s = does_alike _ _ _
      value_alike P low low' h (share m e) d s = bind_alike (value_alike P low low' h e _ s) (λ v s1. does_alike _ _ _)
      value_alike P low low' h (call m f es) d s =
          bind_alike (values_alike P low low' h es s) (λ vs s1. bind_alike (does_alike _ _ _) (λ u s2. found_alike (element P f) _ _ (λ g. turn_alike s2 _ _ (λ s3. returned_alike s3.frame _ _ (activation_alike low low' h g vs (record s3 { frame = new_frame f }))))))
      value_alike P low low' h (input m) d s = does_alike _ _ _
      value_alike P low low' h (print m e) d s = bind_alike (value_alike P low low' h e _ s) (λ v s1. does_alike _ _ _)
      value_alike P low low' h (assign m p e) d s = bind_alike (value_alike P low low' h e _ s) (λ v s1. does_alike _ _ _)
      value_alike P low low' h (update m o p e) d s =
          bind_alike (value_alike P low low' h e _ s) (λ v s1. bind_alike (does_alike _ _ _) (λ u s2. bind_alike (does_alike _ _ _) (λ w s3. does_alike _ _ _)))
      value_alike P low low' h (choose m c l) d s = bind_alike (matched_alike P low low' h c s) (λ vs s1. arms_alike P low low' h (subject c) vs l d s1)
      value_alike P low low' h (loop m l e) d s = turn_alike s _ _ (λ s1. passed_alike l _ _ _ _ (h e (temporary_of e) s1) (λ s2. h (loop m l e) d s2))
      value_alike P low low' h (jump m l k) d s = alike_jump nil
      value_alike P low low' h (give m e) d s = bind_alike (value_alike P low low' h e _ s) (λ v s1. bind_alike (does_alike _ _ _) (λ w s2. alike_jump nil))
      value_alike P low low' h (unit m) d s = alike_on nil
      value_alike P low low' h (block m b) d s = body_alike P low low' h b m.node d s

      values_alike : (P : Functions) (low : Meaning E) (low' : Meaning F) → AllAlike low low' → (es : Operands) (s : State) → Alike T (values A P low es s) (values B P low' es s)
      values_alike P low low' h no_operand s = alike_on nil
      values_alike P low low' h (operand_and i e es) s = bind_alike (value_alike P low low' h e _ s) (λ v s1. bind_alike (values_alike P low low' h es s1) (λ vs s2. alike_on nil))

      matched_alike : (P : Functions) (low : Meaning E) (low' : Meaning F) → AllAlike low low' → (c : Scrutinee) (s : State) → Alike T (matched A P low c s) (matched B P low' c s)
      matched_alike P low low' h (at_place m p) s = alike_on nil
      matched_alike P low low' h (of_value e) s = bind_alike (value_alike P low low' h e _ s) (λ v s1. alike_on nil)

      arms_alike : (P : Functions) (low : Meaning E) (low' : Meaning F) → AllAlike low low' → (S : Subject) (vs : List Value) (l : Arms) (d : Temporary) (s : State) → Alike T (arms A P low S vs l d s) (arms B P low' S vs l d s)
      arms_alike P low low' h S vs no_arm d s = alike_stop nil
      arms_alike P low low' h S vs (arm_and p e rest) d s =
          tested_alike S vs (tests [] p) _ _ _ _ s (λ s1. bound_alike S vs (bindings [] p) _ _ _ s1 (λ s2. value_alike P low low' h e d s2)) (λ s1. arms_alike P low low' h S vs rest d s1)

      body_alike : (P : Functions) (low : Meaning E) (low' : Meaning F) → AllAlike low low' → (b : Body) (n : ℕ) (d : Temporary) (s : State) → Alike T (body A P low b n d s) (body B P low' b n d s)
      body_alike P low low' h (ends e) n d s = value_alike P low low' h e d s
      body_alike P low low' h (runs e rest) n d s = bind_alike (value_alike P low low' h e _ s) (λ v s1. body_alike P low low' h rest n d s1)
      body_alike P low low' h (declares i xs rest) n d s = begun_alike i xs n _ _ s (λ s1. body_alike P low low' h rest n d s1)
      body_alike P low low' h (lets i p c rest) n d s = bind_alike (matched_alike P low low' h c s) (λ vs s1. bound_alike (subject c) vs (bindings [] p) n _ _ s1 (λ s2. body_alike P low low' h rest n d s2))

    levels_alike : (P : Functions) (n : ℕ) → AllAlike (below_level A P n) (below_level B P n)
    unfolding below_level AllAlike
    levels_alike P zero e d s = alike_stop nil
    levels_alike P (suc n) e d s = value_alike P (below_level A P n) (below_level B P n) (levels_alike P n) e d s

    pub activations_alike : (P : Functions) (n : ℕ) (f : Function) (vs : List Value) (s : State) → Alike T (activation A (below_level A P n) f vs s) (activation B (below_level B P n) f vs s)
    activations_alike P n f vs s = activation_alike _ _ (levels_alike P n) f vs s

  pub called_alike : (A : Acting E) (B : Acting F) (inners : (w : List E) (u : List F) → T w u → T (A.inner w) (B.inner u)) (alike : (a : Action) (vs : List Value) (s : State) → DoneAlike T (A.perform a vs s) (B.perform a vs s)) (P : Functions) (n f : ℕ) (vs : List Value) (s : State)
      → Alike T (called A P n f vs s) (called B P n f vs s)
  called_alike A B inners alike P n f vs s = found_alike (element P f) _ _ (λ g. turn_alike s _ _ (λ s3. returned_alike A B inners alike s3.frame _ _ (activation_alike A B inners alike _ _ (levels_alike A B inners alike P n) g vs (record s3 { frame = new_frame f }))))
