-- Parts that do alike, one behind another, do alike; jumps out of a pass of a loop: by cases on what the first part gave.
use Rattle.std.proofs.Common.{◌≡◌, ℕ, ◌≤◌, Bool, true, false, nat_eq, List, [], ◌∷◌, ◌++◌, Some, None, refl, sym, ap, ap₂, ◌∙◌, subst, if◌then◌else◌, append_assoc, eqb-true}
use Rattle.std.proofs.lemmas.Bool.{eqb-false}
use Rattle.rx_lower_walks.specs.Actions.{Action}
use Rattle.rx_lower_walks.specs.Orders.{Order, Exit, breaks, continues, returns}
use Rattle.rx_lower_walks.specs.Walks as walks
use Rattle.rx_lower_walks.specs.Walks.{Passed, by_continue}
use Rattle.rx_meaning.specs.Values.{Value, tagged, unit_value, State}
use Rattle.rx_meaning.specs.Results.{Result, on, jumps, after, bind}
use Rattle.rx_meaning.specs.Expressions.{passed_by}
use Rattle.rx_meaning.specs.Programs.{IsFront}
use Rattle.rx_meaning.specs.Telling.{told_by}
use Rattle.rx_meaning.proofs.Fronts.{front_self, front_behind, front_bind, told_after}
use Rattle.rx_engine_simulation.proofs.Told.{Told, says, did, said, onto, said_append, onto_append, front_said, front_trans}
use Rattle.rx_engine_simulation.proofs.Positions.{Walked, IsWalked, walked}
use Rattle.rx_engine_simulation.proofs.Values.{Pair}
use Rattle.rx_engine_simulation.proofs.States.{Direction, weaken, Kills, later, Facts, Renaming, Frozen, Grown, grown_trans}
pub use Rattle.rx_engine_simulation.specs.Results.{AllDead, Outs, no_outs, out_and, LikeExit, stays_break, stays_continue, gives_back, packs_break, packs_continue, packs_value, packs_unit, Reached, ResultsAlike, both_on, both_jump, both_stop, text_cut, answer_cut, DoAlike}
pub use Rattle.rx_engine_simulation.specs.Jumps.{Pack, Returning, as_return, with_value, with_unit, no_return, Jumping, loop_of, in_loop}

-- an action that kills nothing
pub exit_later : {V : Facts} {J : Jumping} {h : List Action} {j : List Pair} {t : State} {x y : Exit} {v w : Value} (a : Action) → ((x : ℕ) → Kills a.act x → ⊥) → LikeExit V J h j t x v y w → LikeExit V J (a ∷ h) j t x v y w
exit_later a n (stays_break e) = stays_break e
exit_later a n (stays_continue e) = stays_continue e
exit_later a n (gives_back e g) = gives_back e g
exit_later a n (packs_break p e us g dead) = packs_break p e us g (λ x i k l. dead x i k (later a (n x) l))
exit_later a n (packs_continue p e us g dead) = packs_continue p e us g (λ x i k l. dead x i k (later a (n x) l))
exit_later a n (packs_value e g dead) = packs_value e g (λ x i k l. dead x i k (later a (n x) l))
exit_later a n (packs_unit e g dead) = packs_unit e g (λ x i k l. dead x i k (later a (n x) l))

pub good_older : (V : Facts) (w : List (Told ℕ)) (h : List Action) → V.Good (onto w h) → V.Good h
good_older V [] h g = g
good_older V (says b ∷ w) h g = good_older V w h g
good_older V (did a ∷ w) h g = V.older a h (good_older V w (a ∷ h) g)

pub good_front : (V : Facts) (u v : List (Told ℕ)) (h : List Action) → IsFront u v → V.Good (onto v h) → V.Good (onto u h)
good_front V u v h f g = good_older V f.0 (onto u h) (subst V.Good (ap (λ w. onto w h) f.1 ∙ onto_append u f.0 h) g)

front_after_said : {A : Type 0} (o : List (Told ℕ)) (p : List ℕ) (r : Result (Told ℕ) A) → IsFront p (said (told_by r)) → IsFront (said o ++ p) (said (told_by (after o r)))
front_after_said o p r f = (f.0, ap said (told_after o r) ∙ said_append o (told_by r) ∙ ap (λ w. said o ++ w) f.1 ∙ sym (append_assoc (said o) p f.0))

some_none : {A : Type 0} (a : A) → Some a ≡ None → ⊥
some_none a e = cc

some_is : {A : Type 0} {a b : A} → Some a ≡ Some b → a ≡ b
some_is e = cc

same : (i k : ℕ) → i ≡ k → nat_eq i k ≡ true
same i k e = by (nat_eq i k) refl
  where
    by : (b : Bool) → nat_eq i k ≡ b → nat_eq i k ≡ true
    by true f = f
    by false f = absurd (eqb-false i k f e)

other : (i k : ℕ) → (i ≡ k → ⊥) → nat_eq i k ≡ false
other i k n = by (nat_eq i k) refl
  where
    by : (b : Bool) → nat_eq i k ≡ b → nat_eq i k ≡ false
    by true f = absurd (n (eqb-true i k f))
    by false f = f

module _ (V : Facts) (d : Direction) (R : Renaming) (Z Z' : Frozen) (J : Jumping) where
  pub world_before : (c : ℕ) (h1 : List Action) (j j1 j2 : List Pair) (s s' t t' u u' : State) → Grown j s s' j1 t t' → Reached V d R Z Z' c h1 j1 t t' j2 u u' → Reached V d R Z Z' c h1 j s s' j2 u u'
  world_before c h1 j j1 j2 s s' t t' u u' g w = record { inv = w.inv; grown = grown_trans j j1 j2 s s' t t' u u' g w.grown; turns = w.turns }

  -- after both printed the same
  pub alike_prefix : {A B : Type 0} (W : List Pair → A → B → Type 0) (c : ℕ) (h : List Action) (j j1 : List Pair) (s s' t t' : State) (o : List (Told ℕ)) (o' : List ℕ) (r : Result (Told ℕ) A) (r' : Result ℕ B) → said o ≡ o' → Grown j s s' j1 t t' → ResultsAlike V d R Z Z' J W c (onto o h) j1 t t' r r' → ResultsAlike V d R Z Z' J W c h j s s' (after o r) (after o' r')
  unfolding after
  alike_prefix W c h j j1 s s' t t' o o' r r' e g (both_on {o = p} {o' = p'} {t = u} {t' = u'} j2 f w z) =
      both_on j2 (said_append o p ∙ ap₂ (λ a b. a ++ b) e f) w (world_before c _ j j1 j2 s s' t t' u u' g (subst (λ h1. Reached V d R Z Z' c h1 j1 t t' j2 u u') (sym (onto_append o p h)) z))
  alike_prefix W c h j j1 s s' t t' o o' r r' e g (both_jump {o = p} {o' = p'} {x = x1} {y = y1} {v = v1} {w = w1} {t = u} {t' = u'} j2 f x z) =
      both_jump j2 (said_append o p ∙ ap₂ (λ a b. a ++ b) e f) (subst (λ h1. LikeExit V J h1 j2 u x1 v1 y1 w1) (sym (onto_append o p h)) x) (world_before c _ j j1 j2 s s' t t' u u' g (subst (λ h1. Reached V d R Z Z' c h1 j1 t t' j2 u u') (sym (onto_append o p h)) z))
  alike_prefix W c h j j1 s s' t t' o o' r r' e g (both_stop {o = p} f q0) = both_stop (said_append o p ∙ ap₂ (λ a b. a ++ b) e f) q0
  alike_prefix W c h j j1 s s' t t' o o' r r' e g (text_cut {o = p} m f) =
      text_cut m (subst (λ w. IsFront w (told_by (after o' r'))) (ap (λ w. w ++ said p) (sym e) ∙ sym (said_append o p)) (front_behind o' (said p) r' f))
  alike_prefix W c h j j1 s s' t t' o o' r r' e g (answer_cut {o' = p} m f) = answer_cut m (subst (λ w. IsFront (w ++ p) (said (told_by (after o r)))) e (front_after_said o p r f))

  alike_bound : {A B C D : Type 0} (W : List Pair → A → B → Type 0) (X : List Pair → C → D → Type 0) (c e : ℕ) (h : List Action) (j : List Pair) (s s' : State) (r : Result (Told ℕ) A) (r' : Result ℕ B) (go : A → State → Result (Told ℕ) C) (go' : B → State → Result ℕ D) → e ≤ c
      → ResultsAlike V d R Z Z' J W c h j s s' r r'
      → ((o : List (Told ℕ)) (j1 : List Pair) (a : A) (b : B) (t t' : State) → r ≡ on o a t → W j1 a b → Reached V d R Z Z' c (onto o h) j s s' j1 t t' → DoAlike V d R Z Z' J X e (onto o h) j1 t t' (go a t) (go' b t'))
      → DoAlike V d R Z Z' J X e h j s s' (bind r go) (bind r' go')
  unfolding bind
  alike_bound W X c e h j s s' r r' go go' le (both_on {o = o} {o' = o'} {a = a} {b = b} {t = t} {t' = t'} j1 f w z) l g =
      alike_prefix X e h j j1 s s' t t' o o' _ _ f z.grown (l o j1 a b t t' refl w z (subst V.Good (ap (λ w. onto w h) (told_after o (go a t)) ∙ onto_append o (told_by (go a t)) h) g))
  alike_bound W X c e h j s s' r r' go go' le (both_jump j1 f x z) l g = both_jump j1 f x (record { inv = z.inv; grown = z.grown; turns = weaken d c e _ _ le z.turns })
  alike_bound W X c e h j s s' r r' go go' le (both_stop f q0) l g = both_stop f q0
  alike_bound W X c e h j s s' r r' go go' le (text_cut {o = o} m f) l g = text_cut m (front_bind (said o) r' go' f)
  alike_bound W X c e h j s s' r r' go go' le (answer_cut {o' = o'} m f) l g =
      answer_cut m (front_trans o' (said (told_by r)) (said (told_by (bind r go))) f (front_said (told_by r) _ (front_bind (told_by r) r go (front_self _))))

  -- a part, and what follows
  pub alike_bind : {A B C D : Type 0} (W : List Pair → A → B → Type 0) (X : List Pair → C → D → Type 0) (c e : ℕ) (h : List Action) (j : List Pair) (s s' : State) (r : Result (Told ℕ) A) (r' : Result ℕ B) (go : A → State → Result (Told ℕ) C) (go' : B → State → Result ℕ D) → e ≤ c
      → DoAlike V d R Z Z' J W c h j s s' r r'
      → ((h1 : List Action) (j1 : List Pair) (a : A) (b : B) (t t' : State) → W j1 a b → Reached V d R Z Z' c h1 j s s' j1 t t' → DoAlike V d R Z Z' J X e h1 j1 t t' (go a t) (go' b t'))
      → DoAlike V d R Z Z' J X e h j s s' (bind r go) (bind r' go')
  alike_bind W X c e h j s s' r r' go go' le k l good =
      alike_bound W X c e h j s s' r r' go go' le (k (good_front V (told_by r) _ h (front_bind (told_by r) r go (front_self _)) good)) (λ o j1 a b t t' q. l (onto o h) j1 a b t t') good

  -- where the part's run is a walk, what follows stands behind that walk
  pub alike_bind_at : {A B C D : Type 0} (W : List Pair → A → B → Type 0) (X : List Pair → C → D → Type 0) (c e : ℕ) (h : List Action) (j : List Pair) (s s' : State) (r : Result (Told ℕ) A) (r' : Result ℕ B) (go : A → State → Result (Told ℕ) C) (go' : B → State → Result ℕ D) → e ≤ c
      → (part : Order) → IsWalked part r → DoAlike V d R Z Z' J W c h j s s' r r'
      → ((h1 : List Action) (j1 : List Pair) (a : A) (b : B) (t t' : State) → Walked part h h1 → W j1 a b → Reached V d R Z Z' c h1 j s s' j1 t t' → DoAlike V d R Z Z' J X e h1 j1 t t' (go a t) (go' b t'))
      → DoAlike V d R Z Z' J X e h j s s' (bind r go) (bind r' go')
  alike_bind_at W X c e h j s s' r r' go go' le part goes k l good =
      alike_bound W X c e h j s s' r r' go go' le (k (good_front V (told_by r) _ h (front_bind (told_by r) r go (front_self _)) good))
      (λ o j1 a b t t' q. l (onto o h) j1 a b t t' (walked part h o r a t q goes)) good

  -- the same, with what the part gave
  pub alike_bind_is : {A B C D : Type 0} (W : List Pair → A → B → Type 0) (X : List Pair → C → D → Type 0) (c e : ℕ) (h : List Action) (j : List Pair) (s s' : State) (r : Result (Told ℕ) A) (r' : Result ℕ B) (go : A → State → Result (Told ℕ) C) (go' : B → State → Result ℕ D) → e ≤ c
      → (part : Order) → IsWalked part r → DoAlike V d R Z Z' J W c h j s s' r r'
      → ((o : List (Told ℕ)) (j1 : List Pair) (a : A) (b : B) (t t' : State) → r ≡ on o a t → Walked part h (onto o h) → W j1 a b → Reached V d R Z Z' c (onto o h) j s s' j1 t t' → DoAlike V d R Z Z' J X e (onto o h) j1 t t' (go a t) (go' b t'))
      → DoAlike V d R Z Z' J X e h j s s' (bind r go) (bind r' go')
  alike_bind_is W X c e h j s s' r r' go go' le part goes k l good =
      alike_bound W X c e h j s s' r r' go go' le (k (good_front V (told_by r) _ h (front_bind (told_by r) r go (front_self _)) good))
      (λ o j1 a b t t' q. l o j1 a b t t' q (walked part h o r a t q goes)) good

  pub alike_jump_by : (W : List Pair → Value → Value → Type 0) (c l k : ℕ) (h : List Action) (j j1 : List Pair) (s s' t t' : State) (o : List (Told ℕ)) (o' : List ℕ) (x y : Exit) (v w : Value) (go : State → Result (Told ℕ) Value) (go' : State → Result ℕ Value)
      → ((n : ℕ) → loop_of J.loops n ≡ Some k → ⊥) → J.leaving l true ≡ None → J.leaving l false ≡ None
      → W j1 unit_value unit_value → said o ≡ o' → LikeExit V (in_loop J l k) (onto o h) j1 t x v y w → Reached V d R Z Z' c (onto o h) j s s' j1 t t'
      → (Passed l (walks.leaves x) → DoAlike V d R Z Z' J W c (onto o h) j1 t t' (go t) (go' t'))
      → DoAlike V d R Z Z' J W c h j s s' (passed_by l o x v t go) (passed_by k o' y w t' go')
  alike_jump_by W c l k h j j1 s s' t t' o o' x y v w go go' apart none none' unit e (gives_back f g) z next = λ good. both_jump j1 e (gives_back f g) z
  alike_jump_by W c l k h j j1 s s' t t' o o' x y v w go go' apart none none' unit e (packs_value f g dead) z next = λ good. both_jump j1 e (packs_value f g dead) z
  alike_jump_by W c l k h j j1 s s' t t' o o' x y v w go go' apart none none' unit e (packs_unit f g dead) z next = λ good. both_jump j1 e (packs_unit f g dead) z
  alike_jump_by W c l k h j j1 s s' t t' o o' x y v w go go' apart none none' unit e (packs_break {n = n} {m = m} {l = i} {ws = ws} P f us g dead) z next = by (nat_eq i l) refl
    where
      by : (b : Bool) → nat_eq i l ≡ b → DoAlike V d R Z Z' J W c h j s s' (if b then on o unit_value t else jumps o (breaks n i) unit_value t) (jumps o' (returns m) (tagged P.variant ws) t')
      by true q good = absurd (some_none P (sym f ∙ ap (λ n. J.leaving n false) (eqb-true i l q) ∙ none'))
      by false q good = both_jump j1 e (packs_break P f us g dead) z
  alike_jump_by W c l k h j j1 s s' t t' o o' x y v w go go' apart none none' unit e (packs_continue {n = n} {m = m} {l = i} {ws = ws} P f us g dead) z next = by (nat_eq i l) refl
    where
      by : (b : Bool) → nat_eq i l ≡ b → DoAlike V d R Z Z' J W c h j s s' (if b then after o (go t) else jumps o (continues n i) unit_value t) (jumps o' (returns m) (tagged P.variant ws) t')
      by true q good = absurd (some_none P (sym f ∙ ap (λ n. J.leaving n true) (eqb-true i l q) ∙ none))
      by false q good = both_jump j1 e (packs_continue P f us g dead) z
  alike_jump_by W c l k h j j1 s s' t t' o o' x y v w go go' apart none none' unit e (stays_break {n = n} {m = m} {l = i} {k = i'} f) z next = by (nat_eq i l) refl f
    where
      by : (b : Bool) → nat_eq i l ≡ b → (if b then Some k else loop_of J.loops i) ≡ Some i' → DoAlike V d R Z Z' J W c h j s s' (if b then on o unit_value t else jumps o (breaks n i) unit_value t) (if nat_eq i' k then on o' unit_value t' else jumps o' (breaks m i') unit_value t')
      by true q f good = subst (λ q0. ResultsAlike V d R Z Z' J W c h j s s' (on o unit_value t) (if q0 then on o' unit_value t' else jumps o' (breaks m i') unit_value t')) (sym (same i' k (sym (some_is f)))) (both_on j1 e unit z)
      by false q f good = subst (λ q0. ResultsAlike V d R Z Z' J W c h j s s' (jumps o (breaks n i) unit_value t) (if q0 then on o' unit_value t' else jumps o' (breaks m i') unit_value t')) (sym (other i' k (λ g. apart i (subst (λ n. loop_of J.loops i ≡ Some n) g f)))) (both_jump j1 e (stays_break f) z)
  alike_jump_by W c l k h j j1 s s' t t' o o' x y v w go go' apart none none' unit e (stays_continue {n = n} {m = m} {l = i} {k = i'} f) z next = by (nat_eq i l) refl f
    where
      by : (b : Bool) → nat_eq i l ≡ b → (if b then Some k else loop_of J.loops i) ≡ Some i' → DoAlike V d R Z Z' J W c h j s s' (if b then after o (go t) else jumps o (continues n i) unit_value t) (if nat_eq i' k then after o' (go' t') else jumps o' (continues m i') unit_value t')
      by true q f good =
          subst (λ q0. ResultsAlike V d R Z Z' J W c h j s s' (after o (go t)) (if q0 then after o' (go' t') else jumps o' (continues m i') unit_value t')) (sym (same i' k (sym (some_is f))))
          (alike_prefix W c h j j1 s s' t t' o o' (go t) (go' t') e z.grown (next (by_continue (eqb-true i l q)) (subst V.Good (ap (λ w. onto w h) (told_after o (go t)) ∙ onto_append o (told_by (go t)) h) good)))
      by false q f good = subst (λ q0. ResultsAlike V d R Z Z' J W c h j s s' (jumps o (continues n i) unit_value t) (if q0 then after o' (go' t') else jumps o' (continues m i') unit_value t')) (sym (other i' k (λ g. apart i (subst (λ n. loop_of J.loops i ≡ Some n) g f)))) (both_jump j1 e (stays_continue f) z)
