-- How what both states keep goes on behind an action, a write, a turn: pair by pair, and variable by variable.
use Rattle.std.proofs.Common.{◌≡◌, ℕ, Bool, true, false, nat_eq, List, ◌∷◌, Option, Some, None, refl, sym, ap, ◌∙◌, subst, arith, le_refl, ◌⊎◌, inl, inr, ⊎_elim, ℤ, if◌then◌else◌, eqb-true}
use Rattle.std.proofs.lemmas.Bool.{eqb-false}
use Rattle.rx_lower_walks.specs.Actions.{Action}
use Rattle.rx_meaning.specs.Values.{Value, is_set, element, with_element, Frame, slot_of, State, with_memory, with_turns}
use Rattle.rx_engine_simulation.proofs.Memory.{put_same, put_other, length_put}
use Rattle.rx_engine_simulation.proofs.Values.{Pair, In, LikeValue, like_more, More}
use Rattle.rx_engine_simulation.proofs.States.{Facts, later, Declares, WritesWhole, Kills, Borrowed, How, plain, special, through, copied, viewed, absent, Sight, sight, Renaming, sight_of, Frozen, Thawed, SameAt, IsSpecial, Binding, IsSetAt, StatesAlike, Grown}

pub same_to : {j j1 : List Pair} {M M' N N' : List Value} {i k : ℕ} → More j j1 → element N i ≡ element M i → element N' k ≡ element M' k → SameAt j M M' i k → SameAt j1 N N' i k
same_to f e e' a = record { text = a.text; answer = a.answer; at_text = e ∙ a.at_text; at_answer = e' ∙ a.at_answer; like = like_more f a.like }

abbrev pub Stays : Frame → Frame → ℕ → Type 0
Stays F G x = (i : ℕ) → slot_of F.slots x ≡ Some i → slot_of G.slots x ≡ Some i

pub binding_to : (V : Facts) (Z Z' : Frozen) {h h1 : List Action} {j j1 : List Pair} {F F' G G' : Frame} {M M' N N' : List Value} {x y : ℕ} (w : How) → More j j1 → Stays F G x → Stays F' G' y
    → (IsSpecial V Z Z' h j F F' M M' x y → IsSpecial V Z Z' h1 j1 G G' N N' x y) → Binding V Z Z' h j F F' M M' x y w → Binding V Z Z' h1 j1 G G' N N' x y w
binding_to V Z Z' (plain w) f g g' k b = record { left = b.left; right = b.right; is_in = f _ b.is_in; at_text = g _ b.at_text; at_answer = g' _ b.at_answer; not_fixed = b.not_fixed; thawed = b.thawed; thawed' = b.thawed' }
binding_to V Z Z' special f g g' k b = k b
binding_to V Z Z' (through w m) f g g' k b = record { left = b.left; right = b.right; by = b.by; is_in = f _ b.is_in; at_text = g _ b.at_text; at_answer = g' _ b.at_answer; reference = b.reference; not_fixed = b.not_fixed; thawed = b.thawed; thawed' = b.thawed' }
binding_to V Z Z' copied f g g' k b = record { left = b.left; right = b.right; text = b.text; answer = b.answer; at_text = g _ b.at_text; at_answer = g' _ b.at_answer; held = b.held; held' = b.held'; like = like_more f b.like }
binding_to V Z Z' viewed f g g' k b = record { left = b.left; right = b.right; target = b.target; steps = b.steps; flag = b.flag; at_text = g _ b.at_text; at_answer = g' _ b.at_answer; held = b.held; held' = b.held'; is_in = f _ b.is_in; is_free = b.is_free }
binding_to V Z Z' absent f g g' k b = b

abbrev pub KillsNone : Action → Type 0
KillsNone a = (x : ℕ) → Kills a.act x → ⊥

pub touched_later : (a : Action) (h : List Action) (x : ℕ) → (Declares a.act x → ⊥) → Borrowed h x → Borrowed (a ∷ h) x
touched_later a h x n t = inr (n, t)

module _ (V : Facts) (R : Renaming) (Z Z' : Frozen) where
  -- behind an action that writes no variable as a whole
  pub states_step : (a : Action) (h : List Action) (j : List Pair) (s s' : State) → KillsNone a → StatesAlike V R Z Z' h j s s' → StatesAlike V R Z Z' (a ∷ h) j s s'
  states_step a h j s s' n i = record {
    input = i.input;
    paired = i.paired;
    framed = i.framed;
    framed' = i.framed';
    names = i.names;
    binds = λ x e f. binding_to V Z Z' e.how (λ p k. k) (λ k g. g) (λ k g. g) (λ b. record {
      left = b.left;
      right = b.right;
      at_text = b.at_text;
      at_answer = b.at_answer;
      is_one = b.is_one;
      thawed = b.thawed;
      thawed' = b.thawed';
      same = λ l. b.same (later a (n x) l);
      touched = λ q k g. let t = b.touched q k g in (t.0, touched_later a h x (λ d. n x (inl d)) t.1);
      touched' = b.touched';
    }) (i.binds x e f);
    written = λ x k e w. ⊎_elim (λ g. absurd (n x (inr g))) (λ g. i.written x k e g.1) w;
    slotted = λ x w. ⊎_elim (λ g. absurd (n x (inr g))) (λ g. i.slotted x g.1) w;
    anchors = i.anchors;
  }

  pub states_turns : (h : List Action) (j : List Pair) (s s' : State) (u u' : ℕ) → StatesAlike V R Z Z' h j s s' → StatesAlike V R Z Z' h j (with_turns s u) (with_turns s' u')
  states_turns h j s s' u u' i = record { input = i.input; paired = i.paired; framed = i.framed; framed' = i.framed'; names = i.names; binds = i.binds; written = i.written; slotted = i.slotted; anchors = i.anchors }

  pub states_input : (h : List Action) (j : List Pair) (s s' : State) (l : List ℤ) → StatesAlike V R Z Z' h j s s' → StatesAlike V R Z Z' h j (record s { input = l }) (record s' { input = l })
  states_input h j s s' l i = record { input = refl; paired = i.paired; framed = i.framed; framed' = i.framed'; names = i.names; binds = i.binds; written = i.written; slotted = i.slotted; anchors = i.anchors }

  -- the newest variable is no more known
  if_other : {A : Type 0} (b : Bool) (a : A) (o : Option A) (c : A) → b ≡ false → o ≡ Some c → (if b then Some a else o) ≡ Some c
  if_other true a o c e f = absurd (cc)
  if_other false a o c e f = f

  hidden : (x z : ℕ) (e f : Sight) → sight_of R x ≡ None → sight_of R z ≡ Some f → sight_of ((x, e) ∷ R) z ≡ Some f
  hidden x z e f n g = if_other (nat_eq z x) e (sight_of R z) f (by (nat_eq z x) refl) g
    where
      none_some : None ≡ Some f → ⊥
      none_some e = cc

      by : (b : Bool) → nat_eq z x ≡ b → nat_eq z x ≡ false
      by true q = absurd (none_some (sym n ∙ ap (λ z. sight_of R z) (sym (eqb-true z x q)) ∙ g))
      by false q = q

  pub states_drop : (x : ℕ) (e : Sight) (h : List Action) (j : List Pair) (s s' : State) → sight_of R x ≡ None → StatesAlike V ((x, e) ∷ R) Z Z' h j s s' → StatesAlike V R Z Z' h j s s'
  states_drop x e h j s s' n i = record {
    input = i.input;
    paired = i.paired;
    framed = i.framed;
    framed' = i.framed';
    names = λ y z f g a b c. i.names y z f g (hidden x y e f n a) (hidden x z e g n b) c;
    binds = λ y f a. i.binds y f (hidden x y e f n a);
    written = i.written;
    slotted = i.slotted;
    anchors = i.anchors;
  }

-- ---- writes

module _ (V : Facts) (R : Renaming) (Z Z' : Frozen) (h : List Action) (j : List Pair) (s s' : State) (inv : StatesAlike V R Z Z' h j s s') (a : Action) (i k : ℕ) (old old' v v' : Value) (at_i : element s.memory i ≡ Some old) (at_k : element s'.memory k ≡ Some old') (like : LikeValue j v v') (sets : is_set old ≡ true → is_set v ≡ true) where
  abbrev N : List Value
  N = with_element s.memory i v

  abbrev N' : List Value
  N' = with_element s'.memory k v'

  abbrev pub Aside : ℕ → ℕ → Type 0
  Aside x y = (b : IsSpecial V Z Z' h j s.frame s'.frame s.memory s'.memory x y) → ((b.left ≡ i) × (b.right ≡ k)) ⊎ record { left : b.left ≡ i → ⊥; right : b.right ≡ k → ⊥; kept : Kills a.act x → ⊥ }

  here : SameAt j N N' i k
  here = record { text = v; answer = v'; at_text = put_same s.memory i old v at_i; at_answer = put_same s'.memory k old' v' at_k; like = like }

  elsewhere : (m n : ℕ) → (m ≡ i → ⊥) → (n ≡ k → ⊥) → SameAt j s.memory s'.memory m n → SameAt j N N' m n
  elsewhere m n f g b = same_to (λ p k. k) (put_other s.memory i m v f) (put_other s'.memory k n v' g) b

  set_at : (m : ℕ) → IsSetAt s.memory m → IsSetAt N m
  set_at m w = by (nat_eq m i) refl
    where
      some_same : (a b : Value) → Some a ≡ Some b → a ≡ b
      some_same a b e = cc

      by : (b : Bool) → nat_eq m i ≡ b → IsSetAt N m
      by true q =
          let e : m ≡ i = eqb-true m i q in
          (v, subst (λ n. element N n ≡ Some v) (sym e) (put_same s.memory i old v at_i), sets (ap is_set (some_same old w.0 (sym at_i ∙ ap (λ n. element s.memory n) (sym e) ∙ w.1)) ∙ w.2))
      by false q = (w.0, put_other s.memory i m v (eqb-false m i q) ∙ w.1, w.2)

  module _ (left_one : (q : Pair) → In q j → q.left ≡ i → q.right ≡ k) (right_one : (q : Pair) → In q j → q.right ≡ k → q.left ≡ i) (thawed : Thawed Z i) (thawed' : Thawed Z' k) (aside : (x y : ℕ) → sight_of R x ≡ Some (sight y special) → Aside x y)
      (not_new : (x : ℕ) → Declares a.act x → ⊥) (whole : (x n : ℕ) → WritesWhole a.act x → slot_of s.frame.slots x ≡ Some n → IsSetAt N n) (has : (x : ℕ) → WritesWhole a.act x → (n : ℕ) × (slot_of s.frame.slots x ≡ Some n)) where
    paired_same : (q : Pair) → In q j → (b c : Bool) → nat_eq q.left i ≡ b → nat_eq q.right k ≡ c → SameAt j N N' q.left q.right
    paired_same q m true c e f =
        let l : q.left ≡ i = eqb-true q.left i e in
        subst (λ n. SameAt j N N' n q.right) (sym l) (subst (λ n. SameAt j N N' i n) (sym (left_one q m l)) here)
    paired_same q m false true e f = absurd (eqb-false q.left i e (right_one q m (eqb-true q.right k f)))
    paired_same q m false false e f = elsewhere q.left q.right (eqb-false q.left i e) (eqb-false q.right k f) (inv.paired.same q m)

    special_to : (x y : ℕ) → sight_of R x ≡ Some (sight y special) → IsSpecial V Z Z' h j s.frame s'.frame s.memory s'.memory x y → IsSpecial V Z Z' (a ∷ h) j s.frame s'.frame N N' x y
    special_to x y e b = record {
      left = b.left;
      right = b.right;
      at_text = b.at_text;
      at_answer = b.at_answer;
      is_one = b.is_one;
      thawed = b.thawed;
      thawed' = b.thawed';
      same = λ l. ⊎_elim (λ g. subst (λ n. SameAt j N N' n b.right) (sym g.0) (subst (λ n. SameAt j N N' i n) (sym g.1) here)) (λ g. elsewhere b.left b.right g.left g.right (b.same (later a g.kept l))) (aside x y e b);
      touched = λ q m g. let t = b.touched q m g in (t.0, touched_later a h x (not_new x) t.1);
      touched' = b.touched';
    }

    bind_to : (x y : ℕ) (w : How) → sight_of R x ≡ Some (sight y w) → Binding V Z Z' h j s.frame s'.frame s.memory s'.memory x y w → Binding V Z Z' (a ∷ h) j s.frame s'.frame N N' x y w
    bind_to x y special e b = special_to x y e b
    bind_to x y (plain w) e b = b
    bind_to x y (through w m) e b = b
    bind_to x y copied e b = b
    bind_to x y viewed e b = b
    bind_to x y absent e b = b

    pub states_write : StatesAlike V R Z Z' (a ∷ h) j (with_memory s N) (with_memory s' N')
    states_write = record {
      input = inv.input;
      paired = record {
        same = λ q m. paired_same q m (nat_eq q.left i) (nat_eq q.right k) refl refl;
        once = inv.paired.once;
        once' = inv.paired.once';
        frozen = λ m w z. put_other s.memory i m v (λ e. thawed w (subst (λ n. Z.kept n w) e z)) ∙ inv.paired.frozen m w z;
        frozen' = λ m w z. put_other s'.memory k m v' (λ e. thawed' w (subst (λ n. Z'.kept n w) e z)) ∙ inv.paired.frozen' m w z;
        thawed = inv.paired.thawed;
        thawed' = inv.paired.thawed';
      };
      framed = record { below = λ x n e. rw (length_put s.memory i v) (inv.framed.below x n e); apart = inv.framed.apart };
      framed' = record { below = λ x n e. rw (length_put s'.memory k v') (inv.framed'.below x n e); apart = inv.framed'.apart };
      names = inv.names;
      binds = λ x e f. bind_to x e.to e.how f (inv.binds x e f);
      written = λ x n e w. ⊎_elim (λ g. whole x n g e) (λ g. set_at n (inv.written x n e g.1)) w;
      slotted = λ x w. ⊎_elim (λ g. has x g) (λ g. inv.slotted x g.1) w;
      anchors = inv.anchors;
    }

    pub grown_write : Grown j s s' j (with_memory s N) (with_memory s' N')
    grown_write = record {
      more = λ p m. m;
      fresh = λ q m. inl m;
      fresh' = λ q m. inl m;
      long = omega (arith, length_put s.memory i v);
      long' = omega (arith, length_put s'.memory k v');
      scope = λ x n e. inl e;
      scope' = λ x n e. inl e;
      sets = λ n e. set_at n e;
      fewer = le_refl _;
      fewer' = le_refl _;
    }
