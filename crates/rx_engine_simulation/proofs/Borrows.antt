-- Borrows do alike: the slots of a special variable become a pair, to which nothing is written any more.
use Rattle.std.proofs.Common.{◌≡◌, ℕ, Bool, true, false, ◌&&◌, List, [], ◌∷◌, Some, refl, sym, ap, ◌∙◌, subst, le_refl, inl, inr, ⊎_elim}
use Rattle.rx_core.specs.declared.types.Step.{Step}
use Rattle.rx_typed.specs.Tree.{Temporary, Place}
use Rattle.rx_lower_walks.specs.Actions.{Borrow, Action, does}
use Rattle.rx_meaning.specs.Values.{Value, pointer, slot_of, State}
use Rattle.rx_meaning.specs.Results.{gives}
use Rattle.rx_meaning.specs.Places.{Spot, reference_to}
use Rattle.rx_meaning.specs.Endings.{astray}
use Rattle.rx_meaning.specs.Acting.{performed, plainly}
use Rattle.rx_meaning.specs.Results.{or_ends}
use Rattle.rx_engine_simulation.proofs.Told.{followed}
use Rattle.rx_engine_simulation.proofs.Values.{fixed, free, NotFixed, Pair, pair, In, pointers, Given, AllGiven}
use Rattle.rx_engine_simulation.proofs.States.{Direction, Turns, IsRoot, IsOwn, BorrowsOwn, Kills, Borrowed, Facts, now, later, How, special, sight, Renaming, sight_of, Frozen, SameAt, IsSpecial, Binding, StatesAlike, Grown}
use Rattle.rx_engine_simulation.proofs.Keeping.{same_to, binding_to, touched_later}
use Rattle.rx_engine_simulation.proofs.Results.{Jumping, DoAlike}
use Rattle.rx_engine_simulation.proofs.Spots.{LikeSpot, owned, lent, holds, sharing, changing, LikePlace, Specially, Owns, spot_like}
use Rattle.rx_engine_simulation.proofs.Acts.{LikeDone, both_gave, both_ended, act_alike, or_like, stays}
pub use Rattle.rx_engine_simulation.specs.Places.{use_of}

some_same : {A : Type 0} {a b : A} → Some a ≡ Some b → a ≡ b
some_same e = cc

module _ (V : Facts) (R : Renaming) (Z Z' : Frozen) (a : Action) (h : List Action) (j : List Pair) (s s' : State) (inv : StatesAlike V R Z Z' h j s s') (i k : ℕ) (b : Specially V R Z Z' h j s s' i k) (mine : BorrowsOwn a.act b.text) (same : SameAt j s.memory s'.memory i k) (none : (x : ℕ) → Kills a.act x → ⊥) where
  abbrev pub lent_pair : Pair
  lent_pair = pair i k fixed

  not_fixed : (p : Pair) → p ≡ lent_pair → NotFixed p.hold → ⊥
  not_fixed p e n = subst (λ (p : Pair). NotFixed p.hold) e n

  no_left : (p : Pair) → In p j → p.left ≡ i → NotFixed p.hold → ⊥
  no_left p m e n = subst NotFixed (b.is_special.touched p m (e ∙ sym b.is_left)).0 n

  no_right : (p : Pair) → In p j → p.right ≡ k → NotFixed p.hold → ⊥
  no_right p m e n = subst NotFixed (b.is_special.touched p m (b.is_special.touched' p m (e ∙ sym b.is_right))).0 n

  once : (p q : Pair) → In p (lent_pair ∷ j) → In q (lent_pair ∷ j) → p.left ≡ q.left → NotFixed p.hold → p ≡ q
  once p q (inl f) l e n = absurd (not_fixed p f n)
  once p q (inr m) (inl f) e n = absurd (no_left p m (e ∙ ap (λ (p : Pair). p.left) f) n)
  once p q (inr m) (inr o) e n = inv.paired.once p q m o e n

  once' : (p q : Pair) → In p (lent_pair ∷ j) → In q (lent_pair ∷ j) → p.right ≡ q.right → NotFixed p.hold → p ≡ q
  once' p q (inl f) l e n = absurd (not_fixed p f n)
  once' p q (inr m) (inl f) e n = absurd (no_right p m (e ∙ ap (λ (p : Pair). p.right) f) n)
  once' p q (inr m) (inr o) e n = inv.paired.once' p q m o e n

  is_free : (p : Pair) → p ≡ lent_pair → p.hold ≡ free → ⊥
  is_free p e f = cc (ap (λ (p : Pair). p.hold) e)

  bind_on : (x y : ℕ) (w : How) → sight_of R x ≡ Some (sight y w) → Binding V Z Z' h j s.frame s'.frame s.memory s'.memory x y w → Binding V Z Z' (a ∷ h) (lent_pair ∷ j) s.frame s'.frame s.memory s'.memory x y w
  bind_on x y w e c = binding_to V Z Z' w (λ p m. inr m) (λ n f. f) (λ n f. f) (λ d. record {
    left = d.left;
    right = d.right;
    at_text = d.at_text;
    at_answer = d.at_answer;
    is_one = d.is_one;
    thawed = d.thawed;
    thawed' = d.thawed';
    same = λ l. same_to (λ p m. inr m) refl refl (d.same (later a (none x) l));
    touched = λ q m g. touched_any q m d g;
    touched' = λ q m g. touched_any' q m d g;
  }) c
    where
      touched_any : (q : Pair) → In q (lent_pair ∷ j) → (d : IsSpecial V Z Z' h j s.frame s'.frame s.memory s'.memory x y) → q.left ≡ d.left → (q.hold ≡ fixed) × Borrowed (a ∷ h) x
      touched_any q (inl f) d g = (ap (λ (p : Pair). p.hold) f, inl (subst (λ x. BorrowsOwn a.act x) (inv.framed.apart b.text x i (b.is_special.at_text ∙ ap Some b.is_left) (d.at_text ∙ ap Some (sym g ∙ ap (λ (p : Pair). p.left) f))) mine))
      touched_any q (inr m) d g = let t = d.touched q m g in (t.0, touched_later a h x (λ d. none x (inl d)) t.1)

      touched_any' : (q : Pair) → In q (lent_pair ∷ j) → (d : IsSpecial V Z Z' h j s.frame s'.frame s.memory s'.memory x y) → q.right ≡ d.right → q.left ≡ d.left
      touched_any' q (inl f) d g =
          let same_y : b.answer ≡ y = inv.framed'.apart b.answer y k (b.is_special.at_answer ∙ ap Some b.is_right) (d.at_answer ∙ ap Some (sym g ∙ ap (λ (p : Pair). p.right) f)) in
          let same_x : b.text ≡ x = inv.names b.text x (sight b.answer special) (sight y w) b.seen e same_y in
          ap (λ (p : Pair). p.left) f ∙ sym b.is_left ∙ some_same (sym b.is_special.at_text ∙ ap (λ x. slot_of s.frame.slots x) same_x ∙ d.at_text)
      touched_any' q (inr m) d g = d.touched' q m g

  pub states_lend : StatesAlike V R Z Z' (a ∷ h) (lent_pair ∷ j) s s'
  states_lend = record {
    input = inv.input;
    paired = record {
      same = λ q m. ⊎_elim (λ e. subst (λ (q : Pair). SameAt (lent_pair ∷ j) s.memory s'.memory q.left q.right) (sym e) (same_to (λ p m. inr m) refl refl same)) (λ m. same_to (λ p m. inr m) refl refl (inv.paired.same q m)) m;
      once = once;
      once' = once';
      frozen = inv.paired.frozen;
      frozen' = inv.paired.frozen';
      thawed = λ p m e. ⊎_elim (λ f. absurd (is_free p f e)) (λ m. inv.paired.thawed p m e) m;
      thawed' = λ p m e. ⊎_elim (λ f. absurd (is_free p f e)) (λ m. inv.paired.thawed' p m e) m;
    };
    framed = inv.framed;
    framed' = inv.framed';
    names = inv.names;
    binds = λ x e f. bind_on x e.to e.how f (inv.binds x e f);
    written = λ x n e w. ⊎_elim (λ g. absurd (none x (inr g))) (λ g. inv.written x n e g.1) w;
    slotted = λ x w. ⊎_elim (λ g. absurd (none x (inr g))) (λ g. inv.slotted x g.1) w;
    anchors = inv.anchors;
  }

  pub grown_lend : Grown j s s' (lent_pair ∷ j) s s'
  grown_lend = record {
    more = λ p m. inr m;
    fresh = λ q m. ⊎_elim (λ e. inr (inr (b.text, b.is_special.at_text ∙ ap Some (b.is_left ∙ sym (ap (λ (p : Pair). p.left) e))))) (λ m. inl m) m;
    fresh' = λ q m. ⊎_elim (λ e. inr (inr (b.answer, b.is_special.at_answer ∙ ap Some (b.is_right ∙ sym (ap (λ (p : Pair). p.right) e))))) (λ m. inl m) m;
    long = le_refl _;
    long' = le_refl _;
    scope = λ x i e. inl e;
    scope' = λ x i e. inl e;
    sets = λ i e. e;
    fewer = le_refl _;
    fewer' = le_refl _;
  }

module _ (V : Facts) (d : Direction) (R : Renaming) (Z Z' : Frozen) (J : Jumping) (c : ℕ) (h : List Action) (j : List Pair) (s s' : State) (inv : StatesAlike V R Z Z' h j s s') (turns : Turns d c s.turns s'.turns) where
  and_true : (a b : Bool) → a && b ≡ true → b ≡ true
  and_true true b e = e
  and_true false b e = absurd (cc)

  none_killed : (n : ℕ) (k : Bool) (p : Place) (t : Temporary) (x : ℕ) → Kills (Borrow k p t) x → ⊥
  none_killed n k p t x e = ⊎_elim (λ f. f) (λ f. f) e

  pointed_done : (n : ℕ) (k : Bool) (p : Place) (t : Temporary) (i i' : ℕ) (w w' : Bool) (ss : List Step) → k && w ≡ k && w' → (q : Pair) → In q j → q.left ≡ i → q.right ≡ i' → (k && w ≡ true → q.hold ≡ free) → LikeDone V d R Z Z' Given c (does n (Borrow k p t)) h j s s' (gives [] (pointer i ss (k && w)) s) (gives [] (pointer i' ss (k && w')) s')
  pointed_done n k p t i i' w w' ss e q m f g l =
      subst (λ b. LikeDone V d R Z Z' Given c (does n (Borrow k p t)) h j s s' (gives [] (pointer i ss (k && w)) s) (gives [] (pointer i' ss b) s')) e
      (subst (λ i. LikeDone V d R Z Z' Given c (does n (Borrow k p t)) h j s s' (gives [] (pointer i ss (k && w)) s) (gives [] (pointer i' ss (k && w)) s')) f
      (subst (λ i'. LikeDone V d R Z Z' Given c (does n (Borrow k p t)) h j s s' (gives [] (pointer q.left ss (k && w)) s) (gives [] (pointer i' ss (k && w)) s')) g
      (both_gave j (pointers q m l, refl) (stays V d R Z Z' J c h j s s' inv turns (does n (Borrow k p t)) (none_killed n k p t)))))

  true_false : false ≡ true → ⊥
  true_false e = cc

  referred : (n : ℕ) (k : Bool) (p : Place) (t : Temporary) (r : ℕ → Type 0) → ((x : ℕ) → r x → BorrowsOwn (Borrow k p t) x) → (at at' : Spot) → LikeSpot j s.memory s'.memory k (λ i i'. Owns V R Z Z' h j s s' (use_of k) r i i') at at' → LikeDone V d R Z Z' Given c (does n (Borrow k p t)) h j s s' (or_ends astray (reference_to k at) (λ v. gives [] v s)) (or_ends astray (reference_to k at') (λ v. gives [] v s'))
  referred n true p t r mine at at' (lent {ss = ss} {w = w} {w' = w'} q m f g) = pointed_done n true p t q.left q.right w w' ss (g refl) q m refl refl f
  referred n false p t r mine at at' (lent {ss = ss} {w = w} {w' = w'} q m f g) = pointed_done n false p t q.left q.right w w' ss refl q m refl refl (λ e. absurd (true_false e))
  referred n true p t r mine at at' (owned {i = i} {k = i'} {ss = ss} {w = w'} o same f) = pointed_done n true p t i i' true w' ss (sym (f refl)) (pair i i' free) o refl refl (λ e. refl)
  referred n false p t r mine at at' (owned {i = i} {k = i'} {ss = ss} {w = w'} (inl o) same f) = pointed_done n false p t i i' true w' ss refl (pair i i' o.0) o.1 refl refl (λ e. absurd (true_false e))
  referred n false p t r mine at at' (owned {i = i} {k = i'} {ss = ss} {w = w'} (inr o) same f) =
      both_gave (pair i i' fixed ∷ j) (pointers (pair i i' fixed) (inl refl) (λ e. absurd (true_false e)), refl) (record {
        inv = states_lend V R Z Z' (does n (Borrow false p t)) h j s s' inv i i' o.0 (mine o.0.text o.1) same (none_killed n false p t);
        grown = grown_lend V R Z Z' (does n (Borrow false p t)) h j s s' inv i i' o.0 (mine o.0.text o.1) same (none_killed n false p t);
        turns = turns;
      })
  referred n true p t r mine at at' (holds l) = both_ended refl
  referred n false p t r mine at at' (holds l) = both_ended refl

  pub borrow_alike : (n n' : ℕ) (k : Bool) (p p' : Place) (t t' : Temporary) (vs vs' : List Value) → LikePlace R (use_of k) p p' → AllGiven j vs vs' → DoAlike V d R Z Z' J Given c h j s s' (performed followed (does n (Borrow k p t)) vs s) (performed plainly (does n' (Borrow k p' t')) vs' s')
  borrow_alike n n' true p p' t t' vs vs' l g = act_alike V d R Z Z' J c h j s s' Given (does n (Borrow true p t)) (does n' (Borrow true p' t')) vs vs' (λ good.
      or_like V d R Z Z' J c h j s s' Given _ _ _ _ _ _ _ (spot_like V R Z Z' h j s s' inv {u = changing} l (λ x r. now (does n (Borrow true p t)) good r) vs vs' g) (λ at at' m. referred n true p t (λ x. IsRoot p.root x × IsOwn p.steps) (λ x r. r) at at' m))
  borrow_alike n n' false p p' t t' vs vs' l g = act_alike V d R Z Z' J c h j s s' Given (does n (Borrow false p t)) (does n' (Borrow false p' t')) vs vs' (λ good.
      or_like V d R Z Z' J c h j s s' Given _ _ _ _ _ _ _ (spot_like V R Z Z' h j s s' inv {u = sharing} l (λ x r. now (does n (Borrow false p t)) good r) vs vs' g) (λ at at' m. referred n false p t (λ x. IsRoot p.root x × IsOwn p.steps) (λ x r. r) at at' m))
