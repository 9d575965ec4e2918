-- A call does alike: what the special variables of the caller hold is frozen while the other function runs, so all is as it was behind it.
use Rattle.std.proofs.Common.{◌≡◌, ℕ, ◌≤◌, List, [], length, Some, None, refl, sym, ap, ◌∙◌, subst, arith, ◌⊎◌, inl, inr, ⊎_elim}
use Rattle.rx_lower_walks.specs.Actions.{Action}
use Rattle.rx_meaning.specs.Values.{Value, element, Frame, new_frame, slot_of, State}
use Rattle.rx_meaning.specs.Results.{Result}
use Rattle.rx_meaning.specs.Acting.{plainly}
use Rattle.rx_meaning.specs.Expressions.{returned}
use Rattle.rx_meaning.specs.Programs.{IsFront}
use Rattle.rx_meaning.specs.Telling.{told_by}
use Rattle.rx_meaning.proofs.Fronts.{told_returned}
use Rattle.rx_engine_simulation.proofs.Told.{Told, said, onto, saying, followed, said_saying, onto_saying}
use Rattle.rx_engine_simulation.proofs.Values.{fixed, free, Pair, In, like_more, Given}
use Rattle.rx_engine_simulation.proofs.States as worlds
use Rattle.rx_engine_simulation.proofs.States.{Direction, Turns, Facts, Living, Borrowed, Written, How, special, Sight, sight, Renaming, sight_of, Frozen, Thawed, SameAt, IsSpecial, Paired, Framed, IsSetAt, StatesAlike, Grown}
use Rattle.rx_engine_simulation.proofs.Keeping.{same_to}
use Rattle.rx_engine_simulation.proofs.Results.{Jumping, gives_back, stays_break, stays_continue, packs_break, packs_continue, packs_value, packs_unit, Reached, ResultsAlike, both_on, both_jump, both_stop, text_cut, answer_cut}
pub use Rattle.rx_engine_simulation.specs.Programs.{whole_jumps}

none_some : {A : Type 0} {a : A} → None ≡ Some a → ⊥
none_some e = cc

module _ (R : Renaming) (Z Z' : Frozen) (s s' : State) where
  -- the special variables of the caller are kept too
  abbrev pub Kept : Frozen
  Kept = record { anchored = λ x i. ⊥; kept = λ i v. Z.kept i v ⊎ ((x : ℕ) × (y : ℕ) × (sight_of R x ≡ Some (sight y special)) × (slot_of s.frame.slots x ≡ Some i) × (element s.memory i ≡ Some v)) }

  abbrev pub Kept' : Frozen
  Kept' = record { anchored = λ x i. ⊥; kept = λ i v. Z'.kept i v ⊎ ((x : ℕ) × (y : ℕ) × (sight_of R x ≡ Some (sight y special)) × (slot_of s'.frame.slots y ≡ Some i) × (element s'.memory i ≡ Some v)) }

abbrev pub in_item : State → ℕ → State
in_item s i = record s { frame = new_frame i }

abbrev pub in_frame : State → Frame → State
in_frame s F = record s { frame = F }

module _ (V : Facts) (R : Renaming) (Z Z' : Frozen) (h : List Action) (j : List Pair) (s s' : State) (inv : StatesAlike V R Z Z' h j s s') where
  never_free : (q : Pair) → In q j → q.hold ≡ free → (x y : ℕ) → sight_of R x ≡ Some (sight y special) → slot_of s.frame.slots x ≡ Some q.left → ⊥
  never_free q m e x y seen f =
      let b : IsSpecial V Z Z' h j s.frame s'.frame s.memory s'.memory x y = inv.binds x (sight y special) seen in
      cc (sym e ∙ (b.touched q m (some_same (sym f ∙ b.at_text))).0)
    where
      some_same : {a b : ℕ} → Some a ≡ Some b → a ≡ b
      some_same e = cc

  never_free' : (q : Pair) → In q j → q.hold ≡ free → (x y : ℕ) → sight_of R x ≡ Some (sight y special) → slot_of s'.frame.slots y ≡ Some q.right → ⊥
  never_free' q m e x y seen f =
      let b : IsSpecial V Z Z' h j s.frame s'.frame s.memory s'.memory x y = inv.binds x (sight y special) seen in
      cc (sym e ∙ (b.touched q m (b.touched' q m (some_same (sym f ∙ b.at_answer)))).0)
    where
      some_same : {a b : ℕ} → Some a ≡ Some b → a ≡ b
      some_same e = cc

  pub states_enter : (V2 : Facts) (i i' : ℕ) → StatesAlike V2 [] (Kept R Z Z' s s') (Kept' R Z Z' s s') [] j (in_item s i) (in_item s' i')
  states_enter V2 i i' = record {
    input = inv.input;
    paired = record {
      same = inv.paired.same;
      once = inv.paired.once;
      once' = inv.paired.once';
      frozen = λ n v z. ⊎_elim (λ z. inv.paired.frozen n v z) (λ z. z.4) z;
      frozen' = λ n v z. ⊎_elim (λ z. inv.paired.frozen' n v z) (λ z. z.4) z;
      thawed = λ q m e v z. ⊎_elim (λ z. inv.paired.thawed q m e v z) (λ z. never_free q m e z.0 z.1 z.2 z.3) z;
      thawed' = λ q m e v z. ⊎_elim (λ z. inv.paired.thawed' q m e v z) (λ z. never_free' q m e z.0 z.1 z.2 z.3) z;
    };
    framed = record { below = λ x n e. absurd (none_some e); apart = λ x y n e f. absurd (none_some e) };
    framed' = record { below = λ x n e. absurd (none_some e); apart = λ x y n e f. absurd (none_some e) };
    names = λ x y e f g. absurd (none_some g);
    binds = λ x e f. absurd (none_some f);
    written = λ x n e. absurd (none_some e);
    slotted = λ x w. absurd w;
    anchors = λ x n e. absurd e;
  }

  module _ (V2 : Facts) (i i' : ℕ) (h2 : List Action) (j1 : List Pair) (t t' : State) (end : StatesAlike V2 [] (Kept R Z Z' s s') (Kept' R Z Z' s s') h2 j1 t t') (g : Grown j (in_item s i) (in_item s' i') j1 t t') where
    special_back : (x y : ℕ) → sight_of R x ≡ Some (sight y special) → IsSpecial V Z Z' h j s.frame s'.frame s.memory s'.memory x y → IsSpecial V Z Z' h j1 s.frame s'.frame t.memory t'.memory x y
    special_back x y seen b = record {
      left = b.left;
      right = b.right;
      at_text = b.at_text;
      at_answer = b.at_answer;
      is_one = b.is_one;
      thawed = b.thawed;
      thawed' = b.thawed';
      same = λ l. let a = b.same l in
          same_to g.more
          (end.paired.frozen b.left a.text (inr (x, y, seen, b.at_text, a.at_text)) ∙ sym a.at_text)
          (end.paired.frozen' b.right a.answer (inr (x, y, seen, b.at_answer, a.at_answer)) ∙ sym a.at_answer) a;
      touched = λ q m e. old q (g.fresh q m) e;
      touched' = λ q m e. old' q (g.fresh' q m) e;
    }
      where
        old : (q : Pair) → In q j ⊎ (length s.memory ≤ q.left) ⊎ ((x : ℕ) × (None ≡ Some q.left)) → q.left ≡ b.left → (q.hold ≡ fixed) × Borrowed h x
        old q (inl m) e = b.touched q m e
        old q (inr (inl l)) e = let k = inv.framed.below x b.left b.at_text in absurd (omega arith)
        old q (inr (inr f)) e = absurd (none_some f.1)

        old' : (q : Pair) → In q j ⊎ (length s'.memory ≤ q.right) ⊎ ((x : ℕ) × (None ≡ Some q.right)) → q.right ≡ b.right → q.left ≡ b.left
        old' q (inl m) e = b.touched' q m e
        old' q (inr (inl l)) e = let k = inv.framed'.below y b.right b.at_answer in absurd (omega arith)
        old' q (inr (inr f)) e = absurd (none_some f.1)

    bind_back : (x y : ℕ) (w : How) → sight_of R x ≡ Some (sight y w) → worlds.Binding V Z Z' h j s.frame s'.frame s.memory s'.memory x y w → worlds.Binding V Z Z' h j1 s.frame s'.frame t.memory t'.memory x y w
    bind_back x y special seen b = special_back x y seen b
    bind_back x y (worlds.plain w) seen b = record { left = b.left; right = b.right; is_in = g.more _ b.is_in; at_text = b.at_text; at_answer = b.at_answer; not_fixed = b.not_fixed; thawed = b.thawed; thawed' = b.thawed' }
    bind_back x y (worlds.through w m) seen b = record { left = b.left; right = b.right; by = b.by; is_in = g.more _ b.is_in; at_text = b.at_text; at_answer = b.at_answer; reference = b.reference; not_fixed = b.not_fixed; thawed = b.thawed; thawed' = b.thawed' }
    bind_back x y worlds.copied seen b = record { left = b.left; right = b.right; text = b.text; answer = b.answer; at_text = b.at_text; at_answer = b.at_answer; held = b.held; held' = b.held'; like = like_more g.more b.like }
    bind_back x y worlds.viewed seen b = record { left = b.left; right = b.right; target = b.target; steps = b.steps; flag = b.flag; at_text = b.at_text; at_answer = b.at_answer; held = b.held; held' = b.held'; is_in = g.more _ b.is_in; is_free = b.is_free }
    bind_back x y worlds.absent seen b = tt

    pub states_back : StatesAlike V R Z Z' h j1 (in_frame t s.frame) (in_frame t' s'.frame)
    states_back = record {
      input = end.input;
      paired = record {
        same = end.paired.same;
        once = end.paired.once;
        once' = end.paired.once';
        frozen = λ n v z. end.paired.frozen n v (inl z);
        frozen' = λ n v z. end.paired.frozen' n v (inl z);
        thawed = λ q m e v z. end.paired.thawed q m e v (inl z);
        thawed' = λ q m e v z. end.paired.thawed' q m e v (inl z);
      };
      framed = record { below = λ x n e. let k = inv.framed.below x n e in omega (arith, k, g.long); apart = inv.framed.apart };
      framed' = record { below = λ x n e. let k = inv.framed'.below x n e in omega (arith, k, g.long'); apart = inv.framed'.apart };
      names = inv.names;
      binds = λ x e f. bind_back x e.to e.how f (inv.binds x e f);
      written = λ x n e w. g.sets n (inv.written x n e w);
      slotted = inv.slotted;
      anchors = inv.anchors;
    }

    pub grown_back : Grown j s s' j1 (in_frame t s.frame) (in_frame t' s'.frame)
    grown_back = record {
      more = g.more;
      fresh = λ q m. old q (g.fresh q m);
      fresh' = λ q m. old' q (g.fresh' q m);
      long = g.long;
      long' = g.long';
      scope = λ x n e. inl e;
      scope' = λ x n e. inl e;
      sets = g.sets;
      fewer = g.fewer;
      fewer' = g.fewer';
    }
      where
        old : (q : Pair) → In q j ⊎ (length s.memory ≤ q.left) ⊎ ((x : ℕ) × (None ≡ Some q.left)) → In q j ⊎ (length s.memory ≤ q.left) ⊎ ((x : ℕ) × (slot_of s.frame.slots x ≡ Some q.left))
        old q (inl m) = inl m
        old q (inr (inl l)) = inr (inl l)
        old q (inr (inr f)) = absurd (none_some f.1)

        old' : (q : Pair) → In q j ⊎ (length s'.memory ≤ q.right) ⊎ ((x : ℕ) × (None ≡ Some q.right)) → In q j ⊎ (length s'.memory ≤ q.right) ⊎ ((x : ℕ) × (slot_of s'.frame.slots x ≡ Some q.right))
        old' q (inl m) = inl m
        old' q (inr (inl l)) = inr (inl l)
        old' q (inr (inr f)) = absurd (none_some f.1)

  module _ (V2 : Facts) (d : Direction) (J : Jumping) (c : ℕ) (i i' : ℕ) where
    back_world : (o : List (Told ℕ)) (h2 : List Action) (j1 : List Pair) (t t' : State) → Reached V2 d [] (Kept R Z Z' s s') (Kept' R Z Z' s s') c h2 j (in_item s i) (in_item s' i') j1 t t' → Reached V d R Z Z' c (onto (saying (said o)) h) j s s' j1 (in_frame t s.frame) (in_frame t' s'.frame)
    back_world o h2 j1 t t' z =
        subst (λ h1. Reached V d R Z Z' c h1 j s s' j1 (in_frame t s.frame) (in_frame t' s'.frame)) (sym (onto_saying (said o) h))
        (record { inv = states_back V2 i i' h2 j1 t t' z.inv z.grown; grown = grown_back V2 i i' h2 j1 t t' z.inv z.grown; turns = z.turns })

    told_front : (o : List ℕ) (r : Result ℕ Value) → IsFront o (told_by r) → IsFront o (told_by (returned plainly s'.frame r))
    told_front o r f = (f.0, told_returned plainly s'.frame r ∙ f.1)

    told_front' : (o : List ℕ) (r : Result (Told ℕ) Value) → IsFront o (said (told_by r)) → IsFront o (said (told_by (returned followed s.frame r)))
    told_front' o r f = (f.0, ap said (told_returned followed s.frame r) ∙ said_saying (said (told_by r)) ∙ f.1)

    pub returned_alike : (r : Result (Told ℕ) Value) (r' : Result ℕ Value) → ResultsAlike V2 d [] (Kept R Z Z' s s') (Kept' R Z Z' s s') whole_jumps Given c [] j (in_item s i) (in_item s' i') r r' → ResultsAlike V d R Z Z' J Given c h j s s' (returned followed s.frame r) (returned plainly s'.frame r')
    unfolding returned
    returned_alike r r' (both_on {o = o} j1 f w z) = both_stop (said_saying (said o) ∙ f) refl
    returned_alike r r' (both_jump {o = o} {t = t} {t' = t'} j1 f (gives_back e g) z) = both_on j1 (said_saying (said o) ∙ f) g (back_world o _ j1 t t' z)
    returned_alike r r' (both_jump j1 f (stays_break e) z) = absurd (none_some e)
    returned_alike r r' (both_jump j1 f (stays_continue e) z) = absurd (none_some e)
    returned_alike r r' (both_jump j1 f (packs_break p e us g dead) z) = absurd (none_some e)
    returned_alike r r' (both_jump j1 f (packs_continue p e us g dead) z) = absurd (none_some e)
    returned_alike r r' (both_jump j1 f (packs_value e g dead) z) = absurd (cc)
    returned_alike r r' (both_jump j1 f (packs_unit e g dead) z) = absurd (cc)
    returned_alike r r' (both_stop {o = o} f q0) = both_stop (said_saying (said o) ∙ f) q0
    returned_alike r r' (text_cut {o = o} m f) = text_cut m (subst (λ w. IsFront w (told_by (returned plainly s'.frame r'))) (sym (said_saying (said o))) (told_front (said o) r' f))
    returned_alike r r' (answer_cut {o' = o'} m f) = answer_cut m (told_front' o' r f)
