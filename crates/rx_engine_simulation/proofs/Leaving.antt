-- The new function is left: what both states keep inside is kept outside, since its own slots are new and the caller's were frozen.
use Rattle.std.proofs.Common.{◌≡◌, ℕ, ◌<◌, ◌≤◌, List, length, Some, refl, sym, ◌∙◌, arith, ◌⊎◌, inl, inr}
use Rattle.rx_lower_walks.specs.Actions.{Action}
use Rattle.rx_meaning.specs.Values.{Value, element, Frame, slot_of, State}
use Rattle.rx_engine_simulation.proofs.Values.{fixed, Pair, In, like_more}
use Rattle.rx_engine_simulation.proofs.States.{Facts, Living, Borrowed, How, plain, special, through, copied, viewed, absent, Sight, sight, Renaming, sight_of, Frozen, SameAt, IsSpecial, Binding, StatesAlike, Grown}
use Rattle.rx_engine_simulation.specs.Arrivals.{Within}
use Rattle.rx_engine_simulation.proofs.Keeping.{same_to}
use Rattle.rx_engine_simulation.proofs.Entry.{IsCold, Zt, Going}

some_same : {A : Type 0} {a b : A} → Some a ≡ Some b → a ≡ b
some_same e = cc

abbrev pub with_memory_in : State → Frame → List Value → State
with_memory_in t F M = record t { frame = F; memory = M }

module _ (V : Facts) (R : Renaming) (Z Z' : Frozen) (Cold : ℕ → Type 0) (h : List Action) (j : List Pair) (s s' : State) (inv : StatesAlike V R Z Z' h j s s') (cold : (x : ℕ) → Cold x → IsCold R x) (known : (x i : ℕ) → Z.anchored x i → (e : Sight) × (sight_of R x ≡ Some e))
    (Rf Rb : Renaming) (Zf : Frozen) (sa : State) (going : Going V R Z Z' Cold h j s s' inv cold Rf Zf sa) (specials : (x y : ℕ) → sight_of R x ≡ Some (sight y special) → (z : ℕ) × (sight_of Rb x ≡ Some (sight z special)))
    (h1 : List Action) (j1 : List Pair) (t t' : State) (end : StatesAlike V Rb (Zt V R Z Z' Cold h j s s' inv cold) Zf h1 j1 t t') (grown : Grown j s sa j1 t t') where
  -- a variable's slot is what it was
  pub same_slot : (x i : ℕ) (e : Sight) → sight_of R x ≡ Some e → slot_of s.frame.slots x ≡ Some i → slot_of t.frame.slots x ≡ Some i
  same_slot x i e seen f = end.anchors x i (e, seen, f)

  -- pairs that lead to a slot that was there are old ones
  pub old_right : (q : Pair) → In q j1 → q.right < length s'.memory → In q j
  old_right q m l = by (grown.fresh' q m)
    where
      by : In q j ⊎ (length sa.memory ≤ q.right) ⊎ ((y : ℕ) × (slot_of sa.frame.slots y ≡ Some q.right)) → In q j
      by (inl k) = k
      by (inr (inl k)) = absurd (omega (arith, k, l, going.long))
      by (inr (inr e)) = let k = going.slots e.0 q.right e.1 in absurd (omega arith)

  -- of these variables, which may be fewer
  module _ (R0 : Renaming) (within : Within R0 R) (N' : List Value) (Changed : ℕ → Type 0) (same_length : length N' ≡ length t'.memory) (unchanged : (n : ℕ) → (Changed n → ⊥) → element N' n ≡ element t'.memory n)
      (no_pair : (q : Pair) → In q j1 → Changed q.right → ⊥) (not_frozen : (i : ℕ) (v : Value) → Z'.kept i v → Changed i → ⊥)
      (same : (x y : ℕ) → sight_of R0 x ≡ Some (sight y special) → (b : IsSpecial V Z Z' h j s.frame s'.frame s.memory s'.memory x y) → Living V x h1 → SameAt j1 t.memory N' b.left b.right) where
    special_back : (x y : ℕ) → sight_of R0 x ≡ Some (sight y special) → IsSpecial V Z Z' h j s.frame s'.frame s.memory s'.memory x y → IsSpecial V Z Z' h1 j1 t.frame s'.frame t.memory N' x y
    special_back x y seen0 b = record {
      left = b.left;
      right = b.right;
      at_text = same_slot x b.left (sight y special) (within x (sight y special) seen0) b.at_text;
      at_answer = b.at_answer;
      is_one = b.is_one;
      thawed = b.thawed;
      thawed' = b.thawed';
      same = λ l. same x y seen0 b l;
      touched = λ q m e. touched_by q m e (specials x y (within x (sight y special) seen0));
      touched' = λ q m e. b.touched' q (old_right q m (let k = inv.framed'.below y b.right b.at_answer in omega arith)) e;
    }
      where
        touched_by : (q : Pair) → In q j1 → q.left ≡ b.left → (z : ℕ) × (sight_of Rb x ≡ Some (sight z special)) → (q.hold ≡ fixed) × Borrowed h1 x
        touched_by q m e (z, f) =
            let b2 : IsSpecial V (Zt V R Z Z' Cold h j s s' inv cold) Zf h1 j1 t.frame t'.frame t.memory t'.memory x z = end.binds x (sight z special) f in
            b2.touched q m (e ∙ some_same (sym (same_slot x b.left (sight y special) (within x (sight y special) seen0) b.at_text) ∙ b2.at_text))

    bind_back : (x y : ℕ) (w : How) → sight_of R0 x ≡ Some (sight y w) → Binding V Z Z' h j s.frame s'.frame s.memory s'.memory x y w → Binding V Z Z' h1 j1 t.frame s'.frame t.memory N' x y w
    bind_back x y special seen b = special_back x y seen b
    bind_back x y (plain w) seen b = record { left = b.left; right = b.right; is_in = grown.more _ b.is_in; at_text = same_slot x b.left (sight y (plain w)) (within x (sight y (plain w)) seen) b.at_text; at_answer = b.at_answer; not_fixed = b.not_fixed; thawed = b.thawed; thawed' = b.thawed' }
    bind_back x y (through w m) seen b = record { left = b.left; right = b.right; by = b.by; is_in = grown.more _ b.is_in; at_text = same_slot x b.left (sight y (through w m)) (within x (sight y (through w m)) seen) b.at_text; at_answer = b.at_answer; reference = b.reference; not_fixed = b.not_fixed; thawed = b.thawed; thawed' = b.thawed' }
    bind_back x y copied seen b = record { left = b.left; right = b.right; text = b.text; answer = b.answer; at_text = same_slot x b.left (sight y copied) (within x (sight y copied) seen) b.at_text; at_answer = b.at_answer; held = b.held; held' = b.held'; like = like_more grown.more b.like }
    bind_back x y viewed seen b = record { left = b.left; right = b.right; target = b.target; steps = b.steps; flag = b.flag; at_text = same_slot x b.left (sight y viewed) (within x (sight y viewed) seen) b.at_text; at_answer = b.at_answer; held = b.held; held' = b.held'; is_in = grown.more _ b.is_in; is_free = b.is_free }
    bind_back x y absent seen b = tt

    pub states_leave : StatesAlike V R0 Z Z' h1 j1 t (with_memory_in t' s'.frame N')
    states_leave = record {
      input = end.input;
      paired = record {
        same = λ q m. same_to (λ p k. k) refl (unchanged q.right (no_pair q m)) (end.paired.same q m);
        once = end.paired.once;
        once' = end.paired.once';
        frozen = λ i v z. end.paired.frozen i v (inl z);
        frozen' = λ i v z. unchanged i (not_frozen i v z) ∙ end.paired.frozen' i v (going.wider i v (inl z));
        thawed = λ q m e v z. end.paired.thawed q m e v (inl z);
        thawed' = λ q m e v z. end.paired.thawed' q m e v (going.wider q.right v (inl z));
      };
      framed = end.framed;
      framed' = record { below = λ x i e. let k = inv.framed'.below x i e in omega (arith, k, going.long, grown.long', same_length); apart = inv.framed'.apart };
      names = λ x y e f a b g. inv.names x y e f (within x e a) (within y f b) g;
      binds = λ x e f. bind_back x e.to e.how f (inv.binds x e (within x e f));
      written = end.written;
      slotted = end.slotted;
      anchors = λ x i k. let e = known x i k in same_slot x i e.0 e.1 (inv.anchors x i k);
    }

    pub grown_leave : sa.turns ≤ s'.turns → Grown j s s' j1 t (with_memory_in t' s'.frame N')
    grown_leave le = record {
      more = grown.more;
      fresh = grown.fresh;
      fresh' = λ q m. right_of q (grown.fresh' q m);
      long = grown.long;
      long' = omega (arith, grown.long', going.long, same_length);
      scope = grown.scope;
      scope' = λ y i e. inl e;
      sets = grown.sets;
      fewer = grown.fewer;
      fewer' = omega (arith, grown.fewer');
    }
      where
        right_of : (q : Pair) → In q j ⊎ (length sa.memory ≤ q.right) ⊎ ((y : ℕ) × (slot_of sa.frame.slots y ≡ Some q.right)) → In q j ⊎ (length s'.memory ≤ q.right) ⊎ ((y : ℕ) × (slot_of s'.frame.slots y ≡ Some q.right))
        right_of q (inl k) = inl k
        right_of q (inr (inl k)) = inr (inl (omega (arith, k, going.long)))
        right_of q (inr (inr e)) = inr (inl (going.slots e.0 q.right e.1))
