-- With more turns a part does the same, or goes on where it was cut off; with the same ones the level says nothing: the steps
-- of the meaning, where a datum says which.
use Rattle.std.proofs.Common.{◌≡◌, ℕ, zero, suc, ◌<◌, ◌≤◌, Bool, true, false, nat_eq, List, [], ◌∷◌, Option, Some, None, refl, sym, subst, arith, le_refl, if◌then◌else◌}
use Rattle.rx_typed.specs.Tree.{Parameter, Function}
use Rattle.rx_lower_walks.specs.Matching.{PartTest, Binding}
use Rattle.rx_lower_walks.specs.Actions.{Act, Dead, Action, does, Subject, taken}
use Rattle.rx_lower_walks.specs.Orders.{Exit, breaks, continues, returns, exit_node}
use Rattle.rx_meaning.specs.Endings.{Ending, running}
use Rattle.rx_meaning.specs.Values.{Value, number, truth, whole, tagged, pointer, lacking, Frame, State, with_turns}
use Rattle.rx_meaning.specs.Results as results
use Rattle.rx_meaning.specs.Results.{Done, gives, Result, on, jumps, stops, after, bind, result_of}
use Rattle.rx_meaning.specs.Acting.{Acting, performed}
use Rattle.rx_meaning.specs.Patterns.{decided, tested, closed, took, bound, begun}
use Rattle.rx_meaning.specs.Expressions.{turn_at, take_turn, passed_by, passed, back_in, returned, with_arguments, found}
use Rattle.rx_meaning.specs.Programs.{IsFront}
use Rattle.rx_meaning.specs.Telling.{told_by}
use Rattle.rx_meaning.proofs.Fronts.{front_behind, front_bind, front_closed, front_passed, told_returned}

-- whether the second run has as many turns, or at least as many
pub data Compared : Type 0 where
  equally : Compared
  longer : Compared

abbrev pub Turns : Compared → ℕ → ℕ → Type 0
Turns equally t u = t ≡ u
Turns longer t u = t ≤ u

abbrev pub MayStop : Compared → Type 0
MayStop equally = ⊥
MayStop longer = Unit {0}

-- ---- ways to act that don't look at the turns

pub data SameDone {E : Type 0} (t u : ℕ) : Done E → Done E → Type 0 where
  gave : {w : List E} {v : Value} {s : State} → s.turns ≡ t → SameDone t u (gives w v s) (gives w v (with_turns s u))
  ended : {w : List E} {e : Ending} → SameDone t u (results.ends w e) (results.ends w e)

pub record IsBlind {E : Type 0} (A : Acting E) : Type 0 where
  pub performs : (a : Action) (vs : List Value) (s : State) (u : ℕ) → SameDone s.turns u (A.perform a vs s) (A.perform a vs (with_turns s u))
  pub tells : (o w : List E) → IsFront o w → IsFront (A.inner o) (A.inner w)

-- the second result is the first one, apart from the turns left, or the first was cut off on the way
pub data Later {E A : Type 0} (d : Compared) (t0 u0 : ℕ) : Result E A → Result E A → Type 0 where
  both_on : {o : List E} {a : A} {s : State} (u : ℕ) → Turns d s.turns u → s.turns ≤ t0 → u ≤ u0 → Later d t0 u0 (on o a s) (on o a (with_turns s u))
  both_jump : {o : List E} {x : Exit} {v : Value} {s : State} (u : ℕ) → Turns d s.turns u → s.turns ≤ t0 → u ≤ u0 → Later d t0 u0 (jumps o x v s) (jumps o x v (with_turns s u))
  both_stop : {o : List E} {e : Ending} → Later d t0 u0 (stops o e) (stops o e)
  cut : {o : List E} {r : Result E A} → MayStop d → IsFront o (told_by r) → Later d t0 u0 (stops o running) r

-- what follows, from each state with no more turns
abbrev pub Ready : {E A : Type 0} → Compared → ℕ → ℕ → (State → Result E A) → (State → Result E A) → Type 0
Ready d t u go go' = (s : State) (v : ℕ) → Turns d s.turns v → s.turns ≤ t → v ≤ u → Later d s.turns v (go s) (go' (with_turns s v))

module _ {E A : Type 0} (d : Compared) where
  pub later_after : (t u : ℕ) (o : List E) (r r' : Result E A) → Later d t u r r' → Later d t u (after o r) (after o r')
  unfolding after
  later_after t u o r r' (both_on v h le le') = both_on v h le le'
  later_after t u o r r' (both_jump v h le le') = both_jump v h le le'
  later_after t u o r r' both_stop = both_stop
  later_after t u o r r' (cut {o = p} m h) = cut m (front_behind o p r' h)

  pub later_from : (t u t0 u0 : ℕ) (r r' : Result E A) → t ≤ t0 → u ≤ u0 → Later d t u r r' → Later d t0 u0 r r'
  later_from t u t0 u0 r r' a b (both_on v h le le') = both_on v h (omega arith) (omega arith)
  later_from t u t0 u0 r r' a b (both_jump v h le le') = both_jump v h (omega arith) (omega arith)
  later_from t u t0 u0 r r' a b both_stop = both_stop
  later_from t u t0 u0 r r' a b (cut m h) = cut m h

  pub ready_from : (t u t0 u0 : ℕ) (go go' : State → Result E A) → t0 ≤ t → u0 ≤ u → Ready d t u go go' → Ready d t0 u0 go go'
  ready_from t u t0 u0 go go' a b k s v h le le' = k s v h (omega arith) (omega arith)

  pub later_on : (a : A) (s : State) (u : ℕ) → Turns d s.turns u → Later {E = E} d s.turns u (on [] a s) (on [] a (with_turns s u))
  later_on a s u h = both_on u h (le_refl _) (le_refl _)

  pub later_jump : (x : Exit) (v : Value) (s : State) (u : ℕ) → Turns d s.turns u → Later {E = E} {A = A} d s.turns u (jumps [] x v s) (jumps [] x v (with_turns s u))
  later_jump x v s u h = both_jump u h (le_refl _) (le_refl _)

pub later_bind : {E A B : Type 0} (d : Compared) (t u : ℕ) (r r' : Result E A) (go go' : A → State → Result E B) → Later d t u r r' → ((a : A) → Ready d t u (go a) (go' a)) → Later d t u (bind r go) (bind r' go')
unfolding bind
later_bind d t u r r' go go' (both_on {o = o} {a = a} {s = s} v h le le') k = later_after d t u o _ _ (later_from d s.turns v t u _ _ le le' (k a s v h le le'))
later_bind d t u r r' go go' (both_jump v h le le') k = both_jump v h le le'
later_bind d t u r r' go go' both_stop k = both_stop
later_bind d t u r r' go go' (cut {o = o} m h) k = cut m (front_bind o r' go' h)

-- ---- turns

data Turn (d : Compared) : ℕ → ℕ → Type 0 where
  out : {u : ℕ} → MayStop d → Turn d zero u
  neither : Turn d zero zero
  both : {t u : ℕ} → Turns d t u → Turn d (suc t) (suc u)

turn : (d : Compared) (t u : ℕ) → Turns d t u → Turn d t u
turn equally zero zero h = neither
turn equally zero (suc u) h = absurd (omega arith)
turn equally (suc t) zero h = absurd (omega arith)
turn equally (suc t) (suc u) h = both (omega arith)
turn longer zero u h = out tt
turn longer (suc t) zero h = absurd (omega arith)
turn longer (suc t) (suc u) h = both (omega arith)

-- what follows has one turn less
abbrev pub Begun : {E A : Type 0} → Compared → ℕ → ℕ → State → (State → Result E A) → (State → Result E A) → Type 0
Begun d t u s go go' = (v w : ℕ) → v < t → w < u → Turns d v w → Later d v w (go (with_turns s v)) (go' (with_turns s w))

turns_at : {E A : Type 0} (d : Compared) (s : State) (x : ℕ) (go go' : State → Result E A) (t u : ℕ) → Turn d t u → Begun d t u s go go' → Later d t u (turn_at t s go) (turn_at u (with_turns s x) go')
turns_at d s x go go' t u (out m) k = cut m (_, refl)
turns_at d s x go go' t u neither k = both_stop
turns_at d s x go go' t u (both {t = v} {u = w} h) k = later_from d v w t u _ _ (omega arith) (omega arith) (k v w (omega arith) (omega arith) h)

pub later_turn : {E A : Type 0} (d : Compared) (s : State) (u : ℕ) (go go' : State → Result E A) → Turns d s.turns u → Begun d s.turns u s go go' → Later d s.turns u (take_turn s go) (take_turn (with_turns s u) go')
unfolding take_turn
later_turn d s u go go' h k = turns_at d s u go go' s.turns u (turn d s.turns u h) k

-- ---- the steps

module _ {E : Type 0} (d : Compared) where
  pub later_decided : (v : Value) (go other go' other' : State → Result E Value) (s : State) (u : ℕ) → Turns d s.turns u → Ready d s.turns u go go' → Ready d s.turns u other other' → Later d s.turns u (decided v go other s) (decided v go' other' (with_turns s u))
  unfolding decided
  later_decided (truth true) go other go' other' s u h k l = k s u h (le_refl _) (le_refl _)
  later_decided (truth false) go other go' other' s u h k l = l s u h (le_refl _) (le_refl _)
  later_decided (number k z) go other go' other' s u h _ l = both_stop
  later_decided (whole vs) go other go' other' s u h k l = both_stop
  later_decided (tagged i vs) go other go' other' s u h k l = both_stop
  later_decided (pointer i p m) go other go' other' s u h k l = both_stop
  later_decided (lacking x) go other go' other' s u h k l = both_stop

  later_if : (t u : ℕ) (b : Bool) (r q r' q' : Result E Value) → Later d t u r r' → Later d t u q q' → Later d t u (if b then r else q) (if b then r' else q')
  later_if t u true r q r' q' h k = h
  later_if t u false r q r' q' h k = k

  later_passed_by : (l : ℕ) (o : List E) (x : Exit) (v : Value) (s : State) (u t0 u0 : ℕ) (go go' : State → Result E Value) → Turns d s.turns u → s.turns ≤ t0 → u ≤ u0 → Ready d t0 u0 go go' → Later d t0 u0 (passed_by l o x v s go) (passed_by l o x v (with_turns s u) go')
  later_passed_by l o (breaks n k) v s u t0 u0 go go' h le le' r = later_if t0 u0 (nat_eq k l) _ _ _ _ (both_on u h le le') (both_jump u h le le')
  later_passed_by l o (continues n k) v s u t0 u0 go go' h le le' r =
      later_if t0 u0 (nat_eq k l) _ _ _ _ (later_after d t0 u0 o _ _ (later_from d s.turns u t0 u0 _ _ le le' (r s u h le le'))) (both_jump u h le le')
  later_passed_by l o (returns n) v s u t0 u0 go go' h le le' r = both_jump u h le le'

  pub later_passed : (t u l : ℕ) (r r' : Result E Value) (go go' : State → Result E Value) → Later d t u r r' → Ready d t u go go' → Later d t u (passed l r go) (passed l r' go')
  unfolding passed
  later_passed t u l r r' go go' (both_on {o = o} {s = s} v h le le') k = later_after d t u o _ _ (later_from d s.turns v t u _ _ le le' (k s v h le le'))
  later_passed t u l r r' go go' (both_jump {o = o} {x = x} {v = a} {s = s} v h le le') k = later_passed_by l o x a s v t u go go' h le le' k
  later_passed t u l r r' go go' both_stop k = both_stop
  later_passed t u l r r' go go' (cut {o = o} m h) k = cut m (front_passed l o r' go' h)

  pub later_found : (t u : ℕ) (f : Option (Option Function)) (go go' : Function → Result E Value) → ((g : Function) → Later d t u (go g) (go' g)) → Later d t u (found f go) (found f go')
  later_found t u (Some (Some f)) go go' k = k f
  later_found t u (Some None) go go' k = both_stop
  later_found t u None go go' k = both_stop

module _ {E : Type 0} (A : Acting E) (blind : IsBlind A) (d : Compared) where
  done_later : (s : State) (u : ℕ) (r r' : Done E) → Turns d s.turns u → SameDone s.turns u r r' → Later d s.turns u (result_of r) (result_of r')
  unfolding result_of
  done_later s u r r' h (gave {s = s1} e) = both_on u (subst (λ t. Turns d t u) (sym e) h) (omega arith) (le_refl _)
  done_later s u r r' h ended = both_stop

  pub later_performed : (a : Action) (vs : List Value) (s : State) (u : ℕ) → Turns d s.turns u → Later d s.turns u (performed A a vs s) (performed A a vs (with_turns s u))
  later_performed a vs s u h = done_later s u _ _ h (blind.performs a vs s u)

  pub later_closed : (t u n x : ℕ) (r r' : Result E Value) → Later d t u r r' → Later d t u (closed A n x r) (closed A n x r')
  unfolding closed
  later_closed t u n x r r' (both_on {o = o} {a = a} {s = s} v h le le') =
      later_after d t u o _ _ (later_from d s.turns v t u _ _ le le' (later_bind d s.turns v _ _ _ _ (later_performed (does n (Dead x)) [] s v h) (λ w s1 v1 h1 l l'. later_on d a s1 v1 h1)))
  later_closed t u n x r r' (both_jump {o = o} {x = j} {v = a} {s = s} v h le le') =
      later_after d t u o _ _ (later_from d s.turns v t u _ _ le le' (later_bind d s.turns v _ _ _ _ (later_performed (does (exit_node j) (Dead x)) [] s v h) (λ w s1 v1 h1 l l'. later_jump d j a s1 v1 h1)))
  later_closed t u n x r r' both_stop = both_stop
  later_closed t u n x r r' (cut {o = o} m h) = cut m (front_closed A n x o r' h)

  later_took : (n : ℕ) (a : Option Act) (vs : List Value) (s : State) (u : ℕ) → Turns d s.turns u → Later d s.turns u (took A n a vs s) (took A n a vs (with_turns s u))
  unfolding took
  later_took n None vs s u h = later_on d vs s u h
  later_took n (Some a) vs s u h = later_bind d s.turns u _ _ _ _ (later_performed (does n a) vs s u h) (λ v s1 v1 h1 l l'. later_on d (v ∷ []) s1 v1 h1)

  pub later_bound : (S : Subject) (vs : List Value) (bs : List Binding) (n : ℕ) (go go' : State → Result E Value) (s : State) (u : ℕ) → Turns d s.turns u → Ready d s.turns u go go' → Later d s.turns u (bound A S vs bs n go s) (bound A S vs bs n go' (with_turns s u))
  unfolding bound
  later_bound S vs [] n go go' s u h k = k s u h (le_refl _) (le_refl _)
  later_bound S vs (b ∷ bs) n go go' s u h k =
      later_bind d s.turns u _ _ _ _ (later_took b.node (taken S b) vs s u h) (λ ws s1 u1 h1 l1 l1'.
      later_bind d s1.turns u1 _ _ _ _ (later_performed _ _ s1 u1 h1) (λ v2 s2 u2 h2 l2 l2'.
      later_bind d s2.turns u2 _ _ _ _ (later_performed _ _ s2 u2 h2) (λ v3 s3 u3 h3 l3 l3'.
      later_closed s3.turns u3 n b.variable _ _ (later_bound S vs bs n go go' s3 u3 h3 (ready_from d s.turns u s3.turns u3 go go' (omega arith) (omega arith) k)))))

  pub later_begun : (i : ℕ) (xs : List ℕ) (n : ℕ) (go go' : State → Result E Value) (s : State) (u : ℕ) → Turns d s.turns u → Ready d s.turns u go go' → Later d s.turns u (begun A i xs n go s) (begun A i xs n go' (with_turns s u))
  unfolding begun
  later_begun i [] n go go' s u h k = k s u h (le_refl _) (le_refl _)
  later_begun i (x ∷ xs) n go go' s u h k =
      later_bind d s.turns u _ _ _ _ (later_performed _ _ s u h) (λ v s1 u1 h1 l1 l1'.
      later_closed s1.turns u1 n x _ _ (later_begun i xs n go go' s1 u1 h1 (ready_from d s.turns u s1.turns u1 go go' (omega arith) (omega arith) k)))

  pub later_tested : (S : Subject) (vs : List Value) (ts : List PartTest) (go other go' other' : State → Result E Value) (s : State) (u : ℕ) → Turns d s.turns u → Ready d s.turns u go go' → Ready d s.turns u other other' → Later d s.turns u (tested A S vs ts go other s) (tested A S vs ts go' other' (with_turns s u))
  unfolding tested
  later_tested S vs [] go other go' other' s u h k l = k s u h (le_refl _) (le_refl _)
  later_tested S vs (t ∷ ts) go other go' other' s u h k l =
      later_bind d s.turns u _ _ _ _ (later_performed _ _ s u h) (λ v s1 u1 h1 l1 l1'.
      later_decided d v _ _ _ _ s1 u1 h1
      (λ s2 u2 h2 l2 l2'. later_tested S vs ts go other go' other' s2 u2 h2 (ready_from d s.turns u s2.turns u2 go go' (omega arith) (omega arith) k) (ready_from d s.turns u s2.turns u2 other other' (omega arith) (omega arith) l))
      (ready_from d s.turns u s1.turns u1 other other' (omega arith) (omega arith) l))

  later_back : (F : Frame) (o : List E) (x : Exit) (v : Value) (s : State) (u t0 u0 : ℕ) → Turns d s.turns u → s.turns ≤ t0 → u ≤ u0 → Later d t0 u0 (back_in F o x v s) (back_in F o x v (with_turns s u))
  later_back F o (breaks n k) v s u t0 u0 h le le' = both_stop
  later_back F o (continues n k) v s u t0 u0 h le le' = both_stop
  later_back F o (returns n) v s u t0 u0 h le le' = both_on u h le le'

  pub later_returned : (t u : ℕ) (F : Frame) (r r' : Result E Value) → Later d t u r r' → Later d t u (returned A F r) (returned A F r')
  unfolding returned
  later_returned t u F r r' (both_on v h le le') = both_stop
  later_returned t u F r r' (both_jump {o = o} {x = x} {v = a} {s = s} v h le le') = later_back F (A.inner o) x a s v t u h le le'
  later_returned t u F r r' both_stop = both_stop
  later_returned t u F r r' (cut {o = o} m h) = cut m (subst (λ w. IsFront (A.inner o) w) (sym (told_returned A F r')) (blind.tells o (told_by r') h))

  pub later_arguments : (ps : List Parameter) (n : ℕ) (vs : List Value) (go go' : State → Result E Value) (s : State) (u : ℕ) → Turns d s.turns u → Ready d s.turns u go go' → Later d s.turns u (with_arguments A ps n vs go s) (with_arguments A ps n vs go' (with_turns s u))
  unfolding with_arguments
  later_arguments [] n [] go go' s u h k = k s u h (le_refl _) (le_refl _)
  later_arguments [] n (v ∷ vs) go go' s u h k = both_stop
  later_arguments (p ∷ ps) n [] go go' s u h k = both_stop
  later_arguments (p ∷ ps) n (v ∷ vs) go go' s u h k =
      later_bind d s.turns u _ _ _ _ (later_performed _ _ s u h) (λ v1 s1 u1 h1 l1 l1'.
      later_bind d s1.turns u1 _ _ _ _ (later_performed _ _ s1 u1 h1) (λ v2 s2 u2 h2 l2 l2'.
      later_closed s2.turns u2 n p.variable _ _ (later_arguments ps n vs go go' s2 u2 h2 (ready_from d s.turns u s2.turns u2 go go' (omega arith) (omega arith) k))))
