-- The new function has slots of its own for what it is given, while the text stands still: variable by variable.
use Rattle.std.proofs.Common.{◌≡◌, ℕ, ◌<◌, ◌≤◌, Bool, true, false, nat_eq, List, [], ◌∷◌, ◌++◌, length, Some, None, refl, sym, ap, ◌∙◌, subst, arith, le_refl, ◌⊎◌, inl, inr, ⊎_elim, if◌then◌else◌, eqb-true}
use Rattle.rx_core.specs.declared.types.Step.{Step}
use Rattle.rx_lower_walks.specs.Actions.{Action}
use Rattle.rx_meaning.specs.Values.{Value, pointer, element, slot_of, State, with_turns}
use Rattle.rx_engine_simulation.proofs.Memory.{at_end, at_before, at_below, length_more}
use Rattle.rx_engine_simulation.proofs.Values.{Hold, shut, free, Pair, pair, In, LikeValue}
use Rattle.rx_engine_simulation.proofs.States.{Facts, Living, How, plain, special, through, copied, viewed, absent, Sight, sight, Renaming, sight_of, Frozen, Thawed, SameAt, IsPlain, IsSpecial, Binding, StatesAlike}
use Rattle.rx_engine_simulation.proofs.Keeping.{same_to, states_turns}
use Rattle.rx_engine_simulation.proofs.Declaring.{IsNew, framed_new, new_slot, old_slot}
use Rattle.rx_engine_simulation.proofs.Calls.{Kept', in_item}

some_same : {A : Type 0} {a b : A} → Some a ≡ Some b → a ≡ b
some_same e = cc

none_some : {A : Type 0} {a : A} → None ≡ Some a → ⊥
none_some e = cc

-- a new variable of the answer that holds a value
abbrev pub with_value : ℕ → Value → State → State
with_value z v s = record s { memory = s.memory ++ v ∷ []; frame = record { item = s.frame.item; slots = (z, length s.memory) ∷ s.frame.slots } }

-- one more slot is kept
abbrev pub Also : Frozen → ℕ → Value → Frozen
Also Z i v = record { anchored = Z.anchored; kept = λ k w. Z.kept k w ⊎ ((k ≡ i) × (w ≡ v)) }

module _ (V : Facts) (R : Renaming) (Z Z' : Frozen) (x z : ℕ) (v : Value) (h : List Action) (j : List Pair) (s s' : State) (inv : StatesAlike V R Z Z' h j s s') (unused : IsNew R z) (hidden : sight_of R x ≡ None) where
  abbrev t' : State
  t' = with_value z v s'

  right_below : (q : Pair) → In q j → q.right < length s'.memory
  right_below q m = let b = inv.paired.same q m in at_below s'.memory q.right b.answer b.at_answer

  -- kept or not
  module _ (Z1 : Frozen) (wider : (k : ℕ) (w : Value) → Z'.kept k w → Z1.kept k w) (kept : (k : ℕ) (w : Value) → Z1.kept k w → Z'.kept k w ⊎ ((k ≡ length s'.memory) × (w ≡ v))) (w : How) (bind : Binding V Z Z1 h j s.frame t'.frame s.memory t'.memory x z w) where
    thawed_on : (i : ℕ) → i < length s'.memory → Thawed Z' i → Thawed Z1 i
    thawed_on i l n u k = ⊎_elim (λ f. n u f) (λ f. let e = f.0 in absurd (omega arith)) (kept i u k)

    same_on : (i k : ℕ) → SameAt j s.memory s'.memory i k → SameAt j s.memory t'.memory i k
    same_on i k a = same_to (λ p m. m) refl (at_before s'.memory v k (at_below s'.memory k a.answer a.at_answer)) a

    bind_on : (y u : ℕ) (how : How) → (u ≡ z → ⊥) → Binding V Z Z' h j s.frame s'.frame s.memory s'.memory y u how → Binding V Z Z1 h j s.frame t'.frame s.memory t'.memory y u how
    bind_on y u (plain k) n b = record { left = b.left; right = b.right; is_in = b.is_in; at_text = b.at_text; at_answer = old_slot z (length s'.memory) u s'.frame.slots n ∙ b.at_answer; not_fixed = b.not_fixed; thawed = b.thawed; thawed' = thawed_on b.right (inv.framed'.below u b.right b.at_answer) b.thawed' }
    bind_on y u special n b = record {
      left = b.left;
      right = b.right;
      at_text = b.at_text;
      at_answer = old_slot z (length s'.memory) u s'.frame.slots n ∙ b.at_answer;
      is_one = b.is_one;
      thawed = b.thawed;
      thawed' = thawed_on b.right (inv.framed'.below u b.right b.at_answer) b.thawed';
      same = λ l. same_on b.left b.right (b.same l);
      touched = b.touched;
      touched' = b.touched';
    }
    bind_on y u (through k m) n b = record { left = b.left; right = b.right; by = b.by; is_in = b.is_in; at_text = b.at_text; at_answer = old_slot z (length s'.memory) u s'.frame.slots n ∙ b.at_answer; reference = wider b.by _ b.reference; not_fixed = b.not_fixed; thawed = b.thawed; thawed' = λ e. thawed_on b.right (right_below _ b.is_in) (b.thawed' e) }
    bind_on y u copied n b = record { left = b.left; right = b.right; text = b.text; answer = b.answer; at_text = b.at_text; at_answer = old_slot z (length s'.memory) u s'.frame.slots n ∙ b.at_answer; held = b.held; held' = wider b.right b.answer b.held'; like = b.like }
    bind_on y u viewed n b = record { left = b.left; right = b.right; target = b.target; steps = b.steps; flag = b.flag; at_text = b.at_text; at_answer = old_slot z (length s'.memory) u s'.frame.slots n ∙ b.at_answer; held = b.held; held' = wider b.right _ b.held'; is_in = b.is_in; is_free = b.is_free }
    bind_on y u absent n b = tt

    binds_on : (y : ℕ) (e : Sight) (b : Bool) → nat_eq y x ≡ b → (if b then Some (sight z w) else sight_of R y) ≡ Some e → Binding V Z Z1 h j s.frame t'.frame s.memory t'.memory y e.to e.how
    binds_on y e true f g =
        subst (λ (e : Sight). Binding V Z Z1 h j s.frame t'.frame s.memory t'.memory y e.to e.how) (some_same g) (subst (λ y. Binding V Z Z1 h j s.frame t'.frame s.memory t'.memory y z w) (sym (eqb-true y x f)) bind)
    binds_on y e false f g = bind_on y e.to e.how (unused y e g) (inv.binds y e g)

    names_on : (y u : ℕ) (e f : Sight) (b c : Bool) → nat_eq y x ≡ b → nat_eq u x ≡ c → (if b then Some (sight z w) else sight_of R y) ≡ Some e → (if c then Some (sight z w) else sight_of R u) ≡ Some f → e.to ≡ f.to → y ≡ u
    names_on y u e f true true p q a b g = eqb-true y x p ∙ sym (eqb-true u x q)
    names_on y u e f true false p q a b g = absurd (unused u f b (sym g ∙ sym (ap (λ (e : Sight). e.to) (some_same a))))
    names_on y u e f false true p q a b g = absurd (unused y e a (g ∙ sym (ap (λ (e : Sight). e.to) (some_same b))))
    names_on y u e f false false p q a b g = inv.names y u e f a b g

    frozen_on : (i : ℕ) (u : Value) → Z'.kept i u ⊎ ((i ≡ length s'.memory) × (u ≡ v)) → element t'.memory i ≡ Some u
    frozen_on i u (inl k) = let e = inv.paired.frozen' i u k in at_before s'.memory v i (at_below s'.memory i u e) ∙ e
    frozen_on i u (inr k) = subst (λ n. element t'.memory n ≡ Some u) (sym k.0) (at_end s'.memory v ∙ ap Some (sym k.1))

    pub states_given : StatesAlike V ((x, sight z w) ∷ R) Z Z1 h j s t'
    states_given = record {
      input = inv.input;
      paired = record {
        same = λ q m. same_on q.left q.right (inv.paired.same q m);
        once = inv.paired.once;
        once' = inv.paired.once';
        frozen = inv.paired.frozen;
        frozen' = λ i u k. frozen_on i u (kept i u k);
        thawed = inv.paired.thawed;
        thawed' = λ q m e. thawed_on q.right (right_below q m) (inv.paired.thawed' q m e);
      };
      framed = inv.framed;
      framed' = framed_new z s'.frame.item s'.frame s'.memory v inv.framed';
      names = λ y u e f p q. names_on y u e f (nat_eq y x) (nat_eq u x) refl refl p q;
      binds = λ y e f. binds_on y e (nat_eq y x) refl f;
      written = inv.written;
      slotted = inv.slotted;
      anchors = inv.anchors;
    }

-- ---- what the new function is given

module _ (R : Renaming) (Z Z' : Frozen) (Cold : ℕ → Type 0) (s s' : State) where
  -- variables that the run doesn't write keep their values
  abbrev pub Chilled : Frozen
  Chilled = record { anchored = λ x i. (e : Sight) × (sight_of R x ≡ Some e) × (slot_of s.frame.slots x ≡ Some i); kept = λ i v. Z.kept i v ⊎ ((x : ℕ) × Cold x × (slot_of s.frame.slots x ≡ Some i) × (element s.memory i ≡ Some v)) }

-- variables that the run leaves alone: special ones, and those to which no mutable reference leads
abbrev pub IsCold : Renaming → ℕ → Type 0
IsCold R x = (y : ℕ) × ((sight_of R x ≡ Some (sight y special)) ⊎ (sight_of R x ≡ Some (sight y (plain shut))))

module _ (V : Facts) (R : Renaming) (Z Z' : Frozen) (Cold : ℕ → Type 0) (h : List Action) (j : List Pair) (s s' : State) (inv : StatesAlike V R Z Z' h j s s') (cold : (x : ℕ) → Cold x → IsCold R x) where
  abbrev pub Zt : Frozen
  Zt = Chilled R Z Z' Cold s s'

  abbrev pub Za : Frozen
  Za = Kept' R Z Z' s s'

  cold_free : (q : Pair) → In q j → q.hold ≡ free → (x : ℕ) → Cold x → slot_of s.frame.slots x ≡ Some q.left → ⊥
  cold_free q m e x k f = by (cold x k)
    where
      by : IsCold R x → ⊥
      by (y, inl seen) =
          let b : IsSpecial V Z Z' h j s.frame s'.frame s.memory s'.memory x y = inv.binds x (sight y special) seen in
          cc (sym e ∙ (b.touched q m (some_same (sym f ∙ b.at_text))).0)
      by (y, inr seen) =
          let b : IsPlain Z Z' j s.frame s'.frame x y shut = inv.binds x (sight y (plain shut)) seen in
          cc (sym e ∙ sym (ap (λ (q : Pair). q.hold) (inv.paired.once (pair b.left b.right shut) q b.is_in m (some_same (sym b.at_text ∙ f)) tt)))

  kept_free : (q : Pair) → In q j → q.hold ≡ free → (x y : ℕ) → sight_of R x ≡ Some (sight y special) → slot_of s'.frame.slots y ≡ Some q.right → ⊥
  kept_free q m e x y seen f =
      let b : IsSpecial V Z Z' h j s.frame s'.frame s.memory s'.memory x y = inv.binds x (sight y special) seen in
      cc (sym e ∙ (b.touched q m (b.touched' q m (some_same (sym f ∙ b.at_answer)))).0)

  states_begin : (g : ℕ) → StatesAlike V [] Zt Za h j s (in_item s' g)
  states_begin g = record {
    input = inv.input;
    paired = record {
      same = inv.paired.same;
      once = inv.paired.once;
      once' = inv.paired.once';
      frozen = λ n v z. ⊎_elim (λ z. inv.paired.frozen n v z) (λ z. z.3) z;
      frozen' = λ n v z. ⊎_elim (λ z. inv.paired.frozen' n v z) (λ z. z.4) z;
      thawed = λ q m e v z. ⊎_elim (λ z. inv.paired.thawed q m e v z) (λ z. cold_free q m e z.0 z.1 z.2) z;
      thawed' = λ q m e v z. ⊎_elim (λ z. inv.paired.thawed' q m e v z) (λ z. kept_free q m e z.0 z.1 z.2 z.3) z;
    };
    framed = inv.framed;
    framed' = record { below = λ x n e. absurd (none_some e); apart = λ x y n e f. absurd (none_some e) };
    names = λ x y e f g. absurd (none_some g);
    binds = λ x e f. absurd (none_some f);
    written = inv.written;
    slotted = inv.slotted;
    anchors = λ x i k. k.2;
  }

  -- while params are made
  pub record Going (Rp : Renaming) (Zp : Frozen) (sa : State) : Type 0 where
    pub states_now : StatesAlike V Rp Zt Zp h j s sa
    pub old : (k : ℕ) (w : Value) → Zp.kept k w → k < length s'.memory → Za.kept k w
    pub wider : (k : ℕ) (w : Value) → Za.kept k w → Zp.kept k w
    pub long : length s'.memory ≤ length sa.memory
    pub slots : (y i : ℕ) → slot_of sa.frame.slots y ≡ Some i → length s'.memory ≤ i

  pub begins : (g u : ℕ) → Going [] Za (in_item (with_turns s' u) g)
  begins g u = record { states_now = states_turns V [] Zt Za h j s (in_item s' g) s.turns u (states_begin g); old = λ k w z l. z; wider = λ k w z. z; long = le_refl _; slots = λ y i e. absurd (none_some e) }

  module _ (Rp : Renaming) (Zp : Frozen) (sa : State) (going : Going Rp Zp sa) (x z : ℕ) (v : Value) (unused : IsNew Rp z) (hidden : sight_of Rp x ≡ None) where
    abbrev ta : State
    ta = with_value z v sa

    now_below : (q : Pair) → In q j → q.right < length sa.memory
    now_below q m = let b = going.states_now.paired.same q m in at_below sa.memory q.right b.answer b.at_answer

    slots_on : (y i : ℕ) (b : Bool) → (if b then Some (length sa.memory) else slot_of sa.frame.slots y) ≡ Some i → length s'.memory ≤ i
    slots_on y i true e = let f : length sa.memory ≡ i = some_same e in omega (arith, going.long)
    slots_on y i false e = going.slots y i e

    thawed_text : (Cold x → ⊥) → (i : ℕ) → slot_of s.frame.slots x ≡ Some i → Thawed Z i → Thawed Zt i
    thawed_text n i e t w k = ⊎_elim (λ k. t w k) (λ k. n (subst Cold (inv.framed.apart k.0 x i k.2 e) k.1)) k

    -- a special one
    pub pass_special : (y : ℕ) → sight_of R x ≡ Some (sight y special) → (Cold x → ⊥) → (b : IsSpecial V Z Z' h j s.frame s'.frame s.memory s'.memory x y) → (Living V x h → (u : Value) × (element s.memory b.left ≡ Some u) × LikeValue j u v) → Going ((x, sight z special) ∷ Rp) Zp ta
    pass_special y seen n b like = record {
      states_now = states_given V Rp Zt Zp x z v h j s sa going.states_now unused hidden Zp (λ k w q. q) (λ k w q. inl q) special (record {
        left = b.left;
        right = length sa.memory;
        at_text = b.at_text;
        at_answer = new_slot z (length sa.memory) sa.frame.slots;
        is_one = b.is_one;
        thawed = thawed_text n b.left b.at_text b.thawed;
        thawed' = λ w q. let e = at_below sa.memory _ w (going.states_now.paired.frozen' _ w q) in absurd (omega arith);
        same = λ l. let a = like l in record { text = a.0; answer = v; at_text = a.1; at_answer = at_end sa.memory v; like = a.2 };
        touched = b.touched;
        touched' = λ q m e. let k = now_below q m in absurd (omega arith);
      });
      old = going.old;
      wider = going.wider;
      long = omega (arith, going.long, length_more sa.memory v);
      slots = λ u i e. slots_on u i (nat_eq u z) e;
    }

    abbrev pub Zn : Frozen
    Zn = Also Zp (length sa.memory) v

    thawed_new : (k : ℕ) (w : Value) → Zn.kept k w → k < length s'.memory → Za.kept k w
    thawed_new k w (inl q) l = going.old k w q l
    thawed_new k w (inr e) l = let f = e.0 in let g = going.long in absurd (omega arith)

    -- a copy, where the text's doesn't change
    pub pass_copied : (y : ℕ) → sight_of R x ≡ Some (sight y (plain shut)) → Cold x → (b : IsPlain Z Z' j s.frame s'.frame x y shut) → (u : Value) → element s.memory b.left ≡ Some u → LikeValue j u v → Going ((x, sight z copied) ∷ Rp) Zn ta
    pass_copied y seen n b u e like = record {
      states_now = states_given V Rp Zt Zp x z v h j s sa going.states_now unused hidden Zn (λ k w q. inl q) (λ k w q. q) copied (record {
        left = b.left;
        right = length sa.memory;
        text = u;
        answer = v;
        at_text = b.at_text;
        at_answer = new_slot z (length sa.memory) sa.frame.slots;
        held = inr (x, n, b.at_text, e);
        held' = inr (refl, refl);
        like = like;
      });
      old = thawed_new;
      wider = λ k w q. inl (going.wider k w q);
      long = omega (arith, going.long, length_more sa.memory v);
      slots = λ u i e. slots_on u i (nat_eq u z) e;
    }

    -- a shared reference to what the text's leads to, where the text's doesn't change
    pub pass_viewed : (y : ℕ) → sight_of R x ≡ Some (sight y (plain shut)) → Cold x → (b : IsPlain Z Z' j s.frame s'.frame x y shut) → (p : Pair) (ss : List Step) (m : Bool) → element s.memory b.left ≡ Some (pointer p.left ss m) → In p j → (m ≡ true → p.hold ≡ free) → v ≡ pointer p.right ss false → Going ((x, sight z viewed) ∷ Rp) Zn ta
    pass_viewed y seen n b p ss m e i f g = record {
      states_now = states_given V Rp Zt Zp x z v h j s sa going.states_now unused hidden Zn (λ k w q. inl q) (λ k w q. q) viewed (record {
        left = b.left;
        right = length sa.memory;
        target = p;
        steps = ss;
        flag = m;
        at_text = b.at_text;
        at_answer = new_slot z (length sa.memory) sa.frame.slots;
        held = inr (x, n, b.at_text, e);
        held' = inr (refl, sym g);
        is_in = i;
        is_free = f;
      });
      old = thawed_new;
      wider = λ k w q. inl (going.wider k w q);
      long = omega (arith, going.long, length_more sa.memory v);
      slots = λ u i e. slots_on u i (nat_eq u z) e;
    }

    not_special : (y : ℕ) (w : Hold) (b : IsPlain Z Z' j s.frame s'.frame x y w) → sight_of R x ≡ Some (sight y (plain w)) → Thawed Za b.right
    not_special y w b seen u (inl q) = b.thawed' u q
    not_special y w b seen u (inr q) =
        let same_y : q.1 ≡ y = inv.framed'.apart q.1 y b.right q.3 b.at_answer in
        let same_x : q.0 ≡ x = inv.names q.0 x (sight q.1 special) (sight y (plain w)) q.2 seen same_y in
        cc (ap (λ (e : Sight). e.how) (some_same (sym q.2 ∙ ap (λ x. sight_of R x) same_x ∙ seen)))

    thawed_now : (i : ℕ) → i < length s'.memory → Thawed Za i → Thawed Zn i
    thawed_now i l n w q = n w (thawed_new i w q l)

    pub pass_through : (y : ℕ) (w : Hold) (k : Bool) → sight_of R x ≡ Some (sight y (plain w)) → (k ≡ true → Cold x → ⊥) → (b : IsPlain Z Z' j s.frame s'.frame x y w) → v ≡ pointer b.right [] k → Going ((x, sight z (through w k)) ∷ Rp) Zn ta
    pass_through y w k seen n b e = record {
      states_now = states_given V Rp Zt Zp x z v h j s sa going.states_now unused hidden Zn (λ k w q. inl q) (λ k w q. q) (through w k) (record {
        left = b.left;
        right = b.right;
        by = length sa.memory;
        is_in = b.is_in;
        at_text = b.at_text;
        at_answer = new_slot z (length sa.memory) sa.frame.slots;
        reference = inr (refl, sym e);
        not_fixed = b.not_fixed;
        thawed = λ f. thawed_text (n f) b.left b.at_text b.thawed;
        thawed' = λ f. thawed_now b.right (inv.framed'.below y b.right b.at_answer) (not_special y w b seen);
      });
      old = thawed_new;
      wider = λ k w q. inl (going.wider k w q);
      long = omega (arith, going.long, length_more sa.memory v);
      slots = λ u i e. slots_on u i (nat_eq u z) e;
    }

  -- a variable that the new function doesn't know
  pub pass_absent : (Rp : Renaming) (Zp : Frozen) (sa : State) → Going Rp Zp sa → (x z : ℕ) → IsNew Rp z → sight_of Rp x ≡ None → Going ((x, sight z absent) ∷ Rp) Zp sa
  pass_absent Rp Zp sa going x z unused none = record {
    states_now = record {
      input = going.states_now.input;
      paired = going.states_now.paired;
      framed = going.states_now.framed;
      framed' = going.states_now.framed';
      names = λ y u e f p q. names_on y u e f (nat_eq y x) (nat_eq u x) refl refl p q;
      binds = λ y e f. binds_on y e (nat_eq y x) f;
      written = going.states_now.written;
      slotted = going.states_now.slotted;
      anchors = going.states_now.anchors;
    };
    old = going.old;
    wider = going.wider;
    long = going.long;
    slots = going.slots;
  }
    where
      binds_on : (y : ℕ) (e : Sight) (b : Bool) → (if b then Some (sight z absent) else sight_of Rp y) ≡ Some e → Binding V Zt Zp h j s.frame sa.frame s.memory sa.memory y e.to e.how
      binds_on y e true f = subst (λ (e : Sight). Binding V Zt Zp h j s.frame sa.frame s.memory sa.memory y e.to e.how) (some_same f) tt
      binds_on y e false f = going.states_now.binds y e f

      names_on : (y u : ℕ) (e f : Sight) (b c : Bool) → nat_eq y x ≡ b → nat_eq u x ≡ c → (if b then Some (sight z absent) else sight_of Rp y) ≡ Some e → (if c then Some (sight z absent) else sight_of Rp u) ≡ Some f → e.to ≡ f.to → y ≡ u
      names_on y u e f true true p q a b g = eqb-true y x p ∙ sym (eqb-true u x q)
      names_on y u e f true false p q a b g = absurd (unused u f b (sym g ∙ sym (ap (λ (e : Sight). e.to) (some_same a))))
      names_on y u e f false true p q a b g = absurd (unused y e a (g ∙ sym (ap (λ (e : Sight). e.to) (some_same b))))
      names_on y u e f false false p q a b g = going.states_now.names y u e f a b g
