-- Scopes, turns and passes of loops do alike where what stands in them does: by cases on what that gave.
use Rattle.std.proofs.Common.{◌≡◌, ℕ, ◌+◌, ◌<◌, ◌≤◌, true, false, List, [], ◌∷◌, ◌++◌, Some, None, refl, sym, ap, ◌∙◌, subst, arith, le_refl, inl, ⊎_elim, append-nil}
use Rattle.rx_lower_walks.specs.Actions.{Declare, Dead, Action, does}
use Rattle.rx_lower_walks.specs.Orders.{Exit, exit_node}
use Rattle.rx_lower_walks.specs.Walks.{Passed, by_end}
use Rattle.rx_meaning.specs.Values.{Value, unit_value, State, with_turns, with_variable}
use Rattle.rx_meaning.specs.Results.{Result, after, bind, result_of}
use Rattle.rx_meaning.specs.Acting.{performed, plainly}
use Rattle.rx_meaning.specs.Patterns.{decided, closed}
use Rattle.rx_meaning.specs.Expressions.{turn_at, take_turn, passed}
use Rattle.rx_meaning.specs.Telling.{told_by, out_of}
use Rattle.rx_meaning.proofs.Sequences.{after_nothing, closed_is}
use Rattle.rx_meaning.proofs.Fronts.{front_self, front_closed, front_passed, told_after}
use Rattle.rx_engine_simulation.proofs.Told.{Told, did, said, onto, noted, followed, said_append, onto_append, front_said, front_trans}
use Rattle.rx_engine_simulation.proofs.Values.{Pair, LikeValue, numbers, truths, wholes, taggeds, pointers, lacks, no_values, Given}
use Rattle.rx_engine_simulation.proofs.States.{Direction, gain, Turns, weaken, TurnCase, text_out, answer_out, both_turn, turn_case, Facts, Sight, Renaming, sight_of, Frozen, StatesAlike, Grown, grown_refl}
use Rattle.rx_engine_simulation.proofs.Keeping.{states_step, states_drop}
use Rattle.rx_engine_simulation.proofs.Results.{LikeExit, exit_later, Jumping, in_loop, loop_of, Reached, ResultsAlike, both_on, both_jump, both_stop, text_cut, answer_cut, DoAlike, good_front, alike_prefix, alike_jump_by}

-- what a part needs to begin with, at levels m and n
pub record Ready (V : Facts) (d : Direction) (R : Renaming) (Z Z' : Frozen) (c m n : ℕ) (h : List Action) (j : List Pair) (s s' : State) : Type 0 where
  pub inv : StatesAlike V R Z Z' h j s s'
  pub turns : Turns d c s.turns s'.turns
  pub low : s.turns ≤ m
  pub low' : s'.turns ≤ n
  -- the anchored variables are known
  pub known : (x i : ℕ) → Z.anchored x i → (e : Sight) × (sight_of R x ≡ Some e)

module _ (V : Facts) (d : Direction) (R : Renaming) (Z Z' : Frozen) where
  pub go_on : {c e m n : ℕ} {h h1 : List Action} {j j1 : List Pair} {s s' t t' : State} → Ready V d R Z Z' c m n h j s s' → Reached V d R Z Z' e h1 j s s' j1 t t' → Ready V d R Z Z' e m n h1 j1 t t'
  go_on r w = record { inv = w.inv; turns = w.turns; low = omega (arith, r.low, w.grown.fewer); low' = omega (arith, r.low', w.grown.fewer'); known = r.known }

  pub less : {c : ℕ} (e : ℕ) {m n : ℕ} {h : List Action} {j : List Pair} {s s' : State} → e ≤ c → Ready V d R Z Z' c m n h j s s' → Ready V d R Z Z' e m n h j s s'
  less {c = c} e le r = record { inv = r.inv; turns = weaken d c e _ _ le r.turns; low = r.low; low' = r.low'; known = r.known }

  pub stay : {c m n : ℕ} {h : List Action} {j : List Pair} {s s' : State} → Ready V d R Z Z' c m n h j s s' → Reached V d R Z Z' c h j s s' j s s'
  stay {j = j} {s = s} {s' = s'} r = record { inv = r.inv; grown = grown_refl j s s'; turns = r.turns }

module _ (V : Facts) (d : Direction) (R : Renaming) (Z Z' : Frozen) (J : Jumping) where
  -- the newest variable is no more known
  pub alike_drop : {A B : Type 0} (W : List Pair → A → B → Type 0) (c : ℕ) (h : List Action) (j : List Pair) (s s' : State) (x : ℕ) (e : Sight) (r : Result (Told ℕ) A) (r' : Result ℕ B) → sight_of R x ≡ None → DoAlike V d ((x, e) ∷ R) Z Z' J W c h j s s' r r' → DoAlike V d R Z Z' J W c h j s s' r r'
  alike_drop W c h j s s' x e r r' none k good = by r r' (k good)
    where
      by : (r : Result (Told ℕ) _) (r' : Result ℕ _) → ResultsAlike V d ((x, e) ∷ R) Z Z' J W c h j s s' r r' → ResultsAlike V d R Z Z' J W c h j s s' r r'
      by r r' (both_on j1 f w z) = both_on j1 f w (record { inv = states_drop V R Z Z' x e _ j1 _ _ none z.inv; grown = z.grown; turns = z.turns })
      by r r' (both_jump j1 f w z) = both_jump j1 f w (record { inv = states_drop V R Z Z' x e _ j1 _ _ none z.inv; grown = z.grown; turns = z.turns })
      by r r' (both_stop f q0) = both_stop f q0
      by r r' (text_cut m f) = text_cut m f
      by r r' (answer_cut m f) = answer_cut m f

  dead_world : (c : ℕ) (o : List (Told ℕ)) (a : ℕ) (x : ℕ) (h : List Action) (j j1 : List Pair) (s s' t t' : State) → Reached V d R Z Z' c (onto o h) j s s' j1 t t' → Reached V d R Z Z' c (onto (o ++ did (does a (Dead x)) ∷ []) h) j s s' j1 t t'
  dead_world c o a x h j j1 s s' t t' z =
      subst (λ h1. Reached V d R Z Z' c h1 j s s' j1 t t') (sym (onto_append o (did (does a (Dead x)) ∷ []) h))
      (record { inv = states_step V R Z Z' (does a (Dead x)) (onto o h) j1 t t' (λ y k. ⊎_elim (λ e. e) (λ e. e) k) z.inv; grown = z.grown; turns = z.turns })

  exit_dead : {j1 : List Pair} {t : State} {y z : Exit} {v w : Value} (a x : ℕ) (o : List (Told ℕ)) (h : List Action) → LikeExit V J (onto o h) j1 t y v z w → LikeExit V J (onto (o ++ did (does a (Dead x)) ∷ []) h) j1 t y v z w
  exit_dead {j1} {t} {y} {z} {v} {w} a x o h e = subst (λ h1. LikeExit V J h1 j1 t y v z w) (sym (onto_append o (did (does a (Dead x)) ∷ []) h)) (exit_later (does a (Dead x)) (λ y k. ⊎_elim (λ e. e) (λ e. e) k) e)

  -- a variable ends
  closed_of : (W : List Pair → Value → Value → Type 0) (c : ℕ) (h : List Action) (j : List Pair) (s s' : State) (n x : ℕ) (r : Result (Told ℕ) Value) (r' : Result ℕ Value) → ResultsAlike V d R Z Z' J W c h j s s' r r' → ResultsAlike V d R Z Z' J W c h j s s' (closed followed n x r) r'
  unfolding closed bind after result_of noted
  closed_of W c h j s s' n x r r' (both_on {o = o} {t = t} {t' = t'} j1 f w z) = both_on j1 (said_append o _ ∙ append-nil (said o) ∙ f) w (dead_world c o n x h j j1 s s' t t' z)
  closed_of W c h j s s' n x r r' (both_jump {o = o} {x = y} {t = t} {t' = t'} j1 f w z) = both_jump j1 (said_append o _ ∙ append-nil (said o) ∙ f) (exit_dead (exit_node y) x o h w) (dead_world c o (exit_node y) x h j j1 s s' t t' z)
  closed_of W c h j s s' n x r r' (both_stop f q0) = both_stop f q0
  closed_of W c h j s s' n x r r' (text_cut m f) = text_cut m f
  closed_of W c h j s s' n x r r' (answer_cut {o' = o'} m f) = answer_cut m (front_trans o' (said (told_by r)) _ f (front_said (told_by r) _ (front_closed followed n x (told_by r) r (front_self _))))

  pub alike_closed_left : (W : List Pair → Value → Value → Type 0) (c : ℕ) (h : List Action) (j : List Pair) (s s' : State) (n x : ℕ) (r : Result (Told ℕ) Value) (r' : Result ℕ Value) → DoAlike V d R Z Z' J W c h j s s' r r' → DoAlike V d R Z Z' J W c h j s s' (closed followed n x r) r'
  alike_closed_left W c h j s s' n x r r' k good = closed_of W c h j s s' n x r r' (k (good_front V (told_by r) _ h (front_closed followed n x (told_by r) r (front_self _)) good))

pub declare_text : {A : Type 0} (n x : ℕ) (s : State) (go : Value → State → Result (Told ℕ) A) → bind (performed followed (does n (Declare x)) [] s) go ≡ after (did (does n (Declare x)) ∷ []) (go unit_value (with_variable x s))
unfolding bind result_of noted
declare_text n x s go = refl

pub declare_answer : {A : Type 0} (n x : ℕ) (s : State) (go : Value → State → Result ℕ A) → bind (performed plainly (does n (Declare x)) [] s) go ≡ after [] (go unit_value (with_variable x s))
unfolding bind result_of
declare_answer n x s go = refl

module _ (V : Facts) (d : Direction) (R : Renaming) (Z Z' : Frozen) (J : Jumping) where
  pub alike_closed : (W : List Pair → Value → Value → Type 0) (c : ℕ) (h : List Action) (j : List Pair) (s s' : State) (n n' x x' : ℕ) (r : Result (Told ℕ) Value) (r' : Result ℕ Value) → DoAlike V d R Z Z' J W c h j s s' r r' → DoAlike V d R Z Z' J W c h j s s' (closed followed n x r) (closed plainly n' x' r')
  alike_closed W c h j s s' n n' x x' r r' k = subst (λ q. DoAlike V d R Z Z' J W c h j s s' (closed followed n x r) q) (sym (closed_is n' x' r')) (alike_closed_left V d R Z Z' J W c h j s s' n x r r' k)

  -- behind a new variable
  pub declared_then : {A B : Type 0} (W : List Pair → A → B → Type 0) (c : ℕ) (h : List Action) (j j1 : List Pair) (s s' : State) (n n' x y : ℕ) (go : Value → State → Result (Told ℕ) A) (go' : Value → State → Result ℕ B) → Grown j s s' j1 (with_variable x s) (with_variable y s')
      → DoAlike V d R Z Z' J W c (does n (Declare x) ∷ h) j1 (with_variable x s) (with_variable y s') (go unit_value (with_variable x s)) (go' unit_value (with_variable y s'))
      → DoAlike V d R Z Z' J W c h j s s' (bind (performed followed (does n (Declare x)) [] s) go) (bind (performed plainly (does n' (Declare y)) [] s') go')
  declared_then W c h j j1 s s' n n' x y go go' g k =
      subst (λ q. DoAlike V d R Z Z' J W c h j s s' q (bind (performed plainly (does n' (Declare y)) [] s') go')) (sym (declare_text n x s go))
      (subst (λ q. DoAlike V d R Z Z' J W c h j s s' (after (did (does n (Declare x)) ∷ []) (go unit_value (with_variable x s))) q) (sym (declare_answer n' y s' go'))
      (λ good. alike_prefix V d R Z Z' J W c h j j1 s s' _ _ (did (does n (Declare x)) ∷ []) [] _ _ refl g (k (subst V.Good (ap (λ w. onto w h) (told_after (did (does n (Declare x)) ∷ []) (go unit_value (with_variable x s)))) good))))

  pub decided_alike : (W : List Pair → Value → Value → Type 0) (c : ℕ) (h : List Action) (j : List Pair) (s s' : State) (v v' : Value) (go other : State → Result (Told ℕ) Value) (go' other' : State → Result ℕ Value) → LikeValue j v v' → DoAlike V d R Z Z' J W c h j s s' (go s) (go' s') → DoAlike V d R Z Z' J W c h j s s' (other s) (other' s') → DoAlike V d R Z Z' J W c h j s s' (decided v go other s) (decided v' go' other' s')
  unfolding decided
  decided_alike W c h j s s' v v' go other go' other' (truths {b = true}) k l = k
  decided_alike W c h j s s' v v' go other go' other' (truths {b = false}) k l = l
  decided_alike W c h j s s' v v' go other go' other' numbers k l = λ good. both_stop refl refl
  decided_alike W c h j s s' v v' go other go' other' (wholes m) k l = λ good. both_stop refl refl
  decided_alike W c h j s s' v v' go other go' other' (taggeds m) k l = λ good. both_stop refl refl
  decided_alike W c h j s s' v v' go other go' other' (pointers p i f) k l = λ good. both_stop refl refl
  decided_alike W c h j s s' v v' go other go' other' lacks k l = λ good. both_stop refl refl

  turned : (j : List Pair) (s s' : State) (u u' : ℕ) → u ≤ s.turns → u' ≤ s'.turns → Grown j s s' j (with_turns s u) (with_turns s' u')
  turned j s s' u u' le le' = record { more = λ p i. i; fresh = λ q i. inl i; fresh' = λ q i. inl i; long = le_refl _; long' = le_refl _; scope = λ x i e. inl e; scope' = λ x i e. inl e; sets = λ i e. e; fewer = le; fewer' = le' }

  -- from a state that has grown
  pub alike_from : {A B : Type 0} (W : List Pair → A → B → Type 0) (c : ℕ) (h : List Action) (j j1 : List Pair) (s s' t t' : State) (r : Result (Told ℕ) A) (r' : Result ℕ B) → Grown j s s' j1 t t' → ResultsAlike V d R Z Z' J W c h j1 t t' r r' → ResultsAlike V d R Z Z' J W c h j s s' r r'
  alike_from W c h j j1 s s' t t' r r' g k = subst (λ q. ResultsAlike V d R Z Z' J W c h j s s' q r') (after_nothing r) (subst (λ q. ResultsAlike V d R Z Z' J W c h j s s' (after [] r) q) (after_nothing r') (alike_prefix V d R Z Z' J W c h j j1 s s' t t' [] [] r r' refl g k))

  turn_cases : {A B : Type 0} (W : List Pair → A → B → Type 0) (c : ℕ) (h : List Action) (j : List Pair) (s s' : State) (go : State → Result (Told ℕ) A) (go' : State → Result ℕ B) (t t' : ℕ) → t ≡ s.turns → t' ≡ s'.turns → TurnCase d c t t'
      → ((u u' : ℕ) → u < s.turns → u' < s'.turns → Turns d ((gain d).turns + c) u u' → DoAlike V d R Z Z' J W c h j (with_turns s u) (with_turns s' u') (go (with_turns s u)) (go' (with_turns s' u'))) → DoAlike V d R Z Z' J W c h j s s' (turn_at t s go) (turn_at t' s' go')
  turn_cases W c h j s s' go go' t t' e e' (text_out m) k = λ good. text_cut m (_, refl)
  turn_cases W c h j s s' go go' t t' e e' (answer_out m) k = λ good. answer_cut m (_, refl)
  turn_cases W c h j s s' go go' t t' e e' (both_turn {t = u} {t' = u'} f) k = λ good.
      alike_from W c h j j s s' _ _ _ _ (turned j s s' u u' (omega arith) (omega arith)) (k u u' (omega arith) (omega arith) f good)

  pub turn_alike : {A B : Type 0} (W : List Pair → A → B → Type 0) (c : ℕ) (h : List Action) (j : List Pair) (s s' : State) (go : State → Result (Told ℕ) A) (go' : State → Result ℕ B) → Turns d c s.turns s'.turns
      → ((u u' : ℕ) → u < s.turns → u' < s'.turns → Turns d ((gain d).turns + c) u u' → DoAlike V d R Z Z' J W c h j (with_turns s u) (with_turns s' u') (go (with_turns s u)) (go' (with_turns s' u'))) → DoAlike V d R Z Z' J W c h j s s' (take_turn s go) (take_turn s' go')
  unfolding take_turn
  turn_alike W c h j s s' go go' f k = turn_cases W c h j s s' go go' s.turns s'.turns refl refl (turn_case d c s.turns s'.turns f) k

  passed_of : (c l k : ℕ) (h : List Action) (j : List Pair) (s s' : State) (r : Result (Told ℕ) Value) (r' : Result ℕ Value) (go : State → Result (Told ℕ) Value) (go' : State → Result ℕ Value)
      → ((n : ℕ) → loop_of J.loops n ≡ Some k → ⊥) → J.leaving l true ≡ None → J.leaving l false ≡ None
      → ResultsAlike V d R Z Z' (in_loop J l k) Given c h j s s' r r'
      → ((j1 : List Pair) (t t' : State) → Passed l (out_of r) → Reached V d R Z Z' c (onto (told_by r) h) j s s' j1 t t' → DoAlike V d R Z Z' J Given c (onto (told_by r) h) j1 t t' (go t) (go' t'))
      → DoAlike V d R Z Z' J Given c h j s s' (passed l r go) (passed k r' go')
  unfolding passed
  passed_of c l k h j s s' r r' go go' apart none none' (both_on {o = o} {o' = o'} {t = t} {t' = t'} j1 f w z) next = λ good.
      alike_prefix V d R Z Z' J Given c h j j1 s s' t t' o o' (go t) (go' t') f z.grown (next j1 t t' by_end z (subst V.Good (ap (λ w. onto w h) (told_after o (go t)) ∙ onto_append o (told_by (go t)) h) good))
  passed_of c l k h j s s' r r' go go' apart none none' (both_jump {o = o} {o' = o'} {x = x} {y = y} {v = v} {w = w} {t = t} {t' = t'} j1 f e z) next =
      alike_jump_by V d R Z Z' J Given c l k h j j1 s s' t t' o o' x y v w go go' apart none none' (wholes no_values, refl) f e z (λ p. next j1 t t' p z)
  passed_of c l k h j s s' r r' go go' apart none none' (both_stop f q0) next = λ good. both_stop f q0
  passed_of c l k h j s s' r r' go go' apart none none' (text_cut {o = o} m f) next = λ good. text_cut m (front_passed k (said o) r' go' f)
  passed_of c l k h j s s' r r' go go' apart none none' (answer_cut {o' = o'} m f) next = λ good. answer_cut m (front_trans o' (said (told_by r)) _ f (front_said (told_by r) _ (front_passed l (told_by r) r go (front_self _))))

  pub passed_alike : (c l k : ℕ) (h : List Action) (j : List Pair) (s s' : State) (r : Result (Told ℕ) Value) (r' : Result ℕ Value) (go : State → Result (Told ℕ) Value) (go' : State → Result ℕ Value)
      → ((n : ℕ) → loop_of J.loops n ≡ Some k → ⊥) → J.leaving l true ≡ None → J.leaving l false ≡ None
      → DoAlike V d R Z Z' (in_loop J l k) Given c h j s s' r r'
      → ((j1 : List Pair) (t t' : State) → Passed l (out_of r) → Reached V d R Z Z' c (onto (told_by r) h) j s s' j1 t t' → DoAlike V d R Z Z' J Given c (onto (told_by r) h) j1 t t' (go t) (go' t'))
      → DoAlike V d R Z Z' J Given c h j s s' (passed l r go) (passed k r' go')
  passed_alike c l k h j s s' r r' go go' apart none none' f next good =
      passed_of c l k h j s s' r r' go go' apart none none' (f (good_front V (told_by r) _ h (front_passed l (told_by r) r go (front_self _)) good)) next good
