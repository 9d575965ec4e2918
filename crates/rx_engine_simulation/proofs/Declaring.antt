-- What both states keep, where both have a new variable: its slots are new, so no pair and no frozen slot leads there.
use Rattle.std.proofs.Common.{◌≡◌, ℕ, ◌<◌, ◌≤◌, Bool, true, false, nat_eq, List, [], ◌∷◌, ◌++◌, length, Some, None, refl, sym, ap, ◌∙◌, subst, arith, le_refl, ◌⊎◌, inl, inr, ⊎_elim, if◌then◌else◌, eqb-true}
use Rattle.std.proofs.lemmas.Bool.{eqb-false}
use Rattle.rx_lower_walks.specs.Actions.{Declare, Action, does}
use Rattle.rx_meaning.specs.Values.{Value, lacking, unset, element, Frame, slot_of, State, with_variable}
use Rattle.rx_engine_simulation.proofs.Memory.{at_end, at_before, at_below, length_more}
use Rattle.rx_engine_simulation.proofs.Values.{Hold, free, NotFixed, Pair, pair, In, lacks, More}
use Rattle.rx_engine_simulation.proofs.States.{Facts, later, Written, How, plain, special, Sight, sight, Renaming, sight_of, Frozen, Thawed, SameAt, IsSpecial, IsPlain, Binding, Framed, IsSetAt, StatesAlike, Grown}
use Rattle.rx_engine_simulation.proofs.Keeping.{same_to, binding_to, touched_later}
pub use Rattle.rx_engine_simulation.specs.Sights.{IsNew}

some_same : {A : Type 0} {a b : A} → Some a ≡ Some b → a ≡ b
some_same e = cc

none_some : {A : Type 0} {a : A} → None ≡ Some a → ⊥
none_some e = cc

if_false : {A : Type 0} (b : Bool) (x y : A) → b ≡ false → (if b then x else y) ≡ y
if_false true x y e = absurd (cc)
if_false false x y e = refl

if_true : {A : Type 0} (b : Bool) (x y : A) → b ≡ true → (if b then x else y) ≡ x
if_true true x y e = refl
if_true false x y e = absurd (cc)

pub eq_self : (x : ℕ) → nat_eq x x ≡ true
eq_self x = by (nat_eq x x) refl
  where
    by : (b : Bool) → nat_eq x x ≡ b → nat_eq x x ≡ true
    by true e = e
    by false e = absurd (eqb-false x x e refl)

pub ne_false : (x z : ℕ) → (z ≡ x → ⊥) → nat_eq z x ≡ false
ne_false x z n = by (nat_eq z x) refl
  where
    by : (b : Bool) → nat_eq z x ≡ b → nat_eq z x ≡ false
    by true e = absurd (n (eqb-true z x e))
    by false e = e

-- one more variable in a frame
pub framed_new : (x item : ℕ) (F : Frame) (M : List Value) (v : Value) → Framed F M → Framed (record { item = item; slots = (x, length M) ∷ F.slots }) (M ++ v ∷ [])
framed_new x item F M v f = record {
  below = λ z i e. by_below z i (nat_eq z x) e;
  apart = λ y z i e g. by_apart y z i (nat_eq y x) (nat_eq z x) refl refl e g;
}
  where
    by_below : (z i : ℕ) (b : Bool) → (if b then Some (length M) else slot_of F.slots z) ≡ Some i → i < length (M ++ v ∷ [])
    by_below z i true e = let g : length M ≡ i = some_same e in omega (arith, length_more M v)
    by_below z i false e = let g = f.below z i e in omega (arith, length_more M v)

    by_apart : (y z i : ℕ) (b c : Bool) → nat_eq y x ≡ b → nat_eq z x ≡ c → (if b then Some (length M) else slot_of F.slots y) ≡ Some i → (if c then Some (length M) else slot_of F.slots z) ≡ Some i → y ≡ z
    by_apart y z i true true p q e g = eqb-true y x p ∙ sym (eqb-true z x q)
    by_apart y z i true false p q e g = let a : length M ≡ i = some_same e in let b = f.below z i g in absurd (omega arith)
    by_apart y z i false true p q e g = let a : length M ≡ i = some_same g in let b = f.below y i e in absurd (omega arith)
    by_apart y z i false false p q e g = f.apart y z i e g

pub new_slot : (x l : ℕ) (bs : List (ℕ × ℕ)) → slot_of ((x, l) ∷ bs) x ≡ Some l
new_slot x l bs = if_true (nat_eq x x) (Some l) (slot_of bs x) (eq_self x)

pub old_slot : (x l z : ℕ) (bs : List (ℕ × ℕ)) → (z ≡ x → ⊥) → slot_of ((x, l) ∷ bs) z ≡ slot_of bs z
old_slot x l z bs n = if_false (nat_eq z x) (Some l) (slot_of bs z) (ne_false x z n)

pub set_more : (M : List Value) (v : Value) (i : ℕ) → IsSetAt M i → IsSetAt (M ++ v ∷ []) i
set_more M v i w = (w.0, at_before M v i (at_below M i w.0 w.1) ∙ w.1, w.2)

module _ (V : Facts) (R : Renaming) (Z Z' : Frozen) (n x y : ℕ) (h : List Action) (j : List Pair) (s s' : State) (inv : StatesAlike V R Z Z' h j s s') (unused : IsNew R y) (unanchored : (i : ℕ) → Z.anchored x i → ⊥) where
  abbrev t : State
  t = with_variable x s

  abbrev t' : State
  t' = with_variable y s'

  abbrev a : Action
  a = does n (Declare x)

  left_below : (q : Pair) → In q j → q.left < length s.memory
  left_below q m = let b = inv.paired.same q m in at_below s.memory q.left b.text b.at_text

  right_below : (q : Pair) → In q j → q.right < length s'.memory
  right_below q m = let b = inv.paired.same q m in at_below s'.memory q.right b.answer b.at_answer

  abbrev New : Pair → Type 0
  New q = (q.left ≡ length s.memory) × (q.right ≡ length s'.memory)

  -- with the pairs that there are then
  module _ (w : How) (j1 : List Pair) (more : More j j1) (news : (q : Pair) → In q j1 → In q j ⊎ New q) (one : (p q : Pair) → In p j1 → In q j1 → New p → New q → p ≡ q)
      (bind : IsNew R y → Binding V Z Z' (a ∷ h) j1 t.frame t'.frame t.memory t'.memory x y w) where
    pair_same : (q : Pair) → In q j ⊎ New q → SameAt j1 t.memory t'.memory q.left q.right
    pair_same q (inl m) = same_to more (at_before s.memory (lacking unset) q.left (left_below q m)) (at_before s'.memory (lacking unset) q.right (right_below q m)) (inv.paired.same q m)
    pair_same q (inr e) = record {
      text = lacking unset;
      answer = lacking unset;
      at_text = subst (λ k. element t.memory k ≡ Some (lacking unset)) (sym e.0) (at_end s.memory (lacking unset));
      at_answer = subst (λ k. element t'.memory k ≡ Some (lacking unset)) (sym e.1) (at_end s'.memory (lacking unset));
      like = lacks;
    }

    pair_once : (p q : Pair) → In p j1 → In q j1 → In p j ⊎ New p → In q j ⊎ New q → p.left ≡ q.left → NotFixed p.hold → p ≡ q
    pair_once p q k l (inl m) (inl o) e f = inv.paired.once p q m o e f
    pair_once p q k l (inl m) (inr o) e f = let b = left_below p m in let c = o.0 in absurd (omega arith)
    pair_once p q k l (inr m) (inl o) e f = let b = left_below q o in let c = m.0 in absurd (omega arith)
    pair_once p q k l (inr m) (inr o) e f = one p q k l m o

    pair_once' : (p q : Pair) → In p j1 → In q j1 → In p j ⊎ New p → In q j ⊎ New q → p.right ≡ q.right → NotFixed p.hold → p ≡ q
    pair_once' p q k l (inl m) (inl o) e f = inv.paired.once' p q m o e f
    pair_once' p q k l (inl m) (inr o) e f = let b = right_below p m in let c = o.1 in absurd (omega arith)
    pair_once' p q k l (inr m) (inl o) e f = let b = right_below q o in let c = m.1 in absurd (omega arith)
    pair_once' p q k l (inr m) (inr o) e f = one p q k l m o

    pair_thawed : (q : Pair) → In q j ⊎ New q → q.hold ≡ free → Thawed Z q.left
    pair_thawed q (inl m) e = λ v z. inv.paired.thawed q m e v z
    pair_thawed q (inr m) e = λ v z. let b = at_below s.memory q.left v (inv.paired.frozen q.left v z) in let c = m.0 in absurd (omega arith)

    pair_thawed' : (q : Pair) → In q j ⊎ New q → q.hold ≡ free → Thawed Z' q.right
    pair_thawed' q (inl m) e = inv.paired.thawed' q m e
    pair_thawed' q (inr m) e = λ v z. let b = at_below s'.memory q.right v (inv.paired.frozen' q.right v z) in let c = m.1 in absurd (omega arith)

    special_on : (z v : ℕ) → (z ≡ x → ⊥) → (v ≡ y → ⊥) → IsSpecial V Z Z' h j s.frame s'.frame s.memory s'.memory z v → IsSpecial V Z Z' (a ∷ h) j1 t.frame t'.frame t.memory t'.memory z v
    special_on z v f g b = record {
      left = b.left;
      right = b.right;
      at_text = old_slot x (length s.memory) z s.frame.slots f ∙ b.at_text;
      at_answer = old_slot y (length s'.memory) v s'.frame.slots g ∙ b.at_answer;
      is_one = b.is_one;
      thawed = b.thawed;
      thawed' = b.thawed';
      same = λ l. same_to more (at_before s.memory (lacking unset) b.left (inv.framed.below z b.left b.at_text)) (at_before s'.memory (lacking unset) b.right (inv.framed'.below v b.right b.at_answer)) (b.same (later a (λ k. ⊎_elim f (λ k. k) k) l));
      touched = λ q m e. ⊎_elim (λ o. let c = b.touched q o e in (c.0, touched_later a h z f c.1)) (λ o. let c = inv.framed.below z b.left b.at_text in let d = o.0 in absurd (omega arith)) (news q m);
      touched' = λ q m e. ⊎_elim (λ o. b.touched' q o e) (λ o. let c = inv.framed'.below v b.right b.at_answer in let d = o.1 in absurd (omega arith)) (news q m);
    }

    binds_on : (z : ℕ) (e : Sight) (b : Bool) → nat_eq z x ≡ b → (if b then Some (sight y w) else sight_of R z) ≡ Some e → Binding V Z Z' (a ∷ h) j1 t.frame t'.frame t.memory t'.memory z e.to e.how
    binds_on z e true f g =
        subst (λ (e : Sight). Binding V Z Z' (a ∷ h) j1 t.frame t'.frame t.memory t'.memory z e.to e.how) (some_same g) (subst (λ z. Binding V Z Z' (a ∷ h) j1 t.frame t'.frame t.memory t'.memory z y w) (sym (eqb-true z x f)) (bind unused))
    binds_on z e false f g =
        binding_to V Z Z' e.how more (λ i k. old_slot x (length s.memory) z s.frame.slots (eqb-false z x f) ∙ k) (λ i k. old_slot y (length s'.memory) e.to s'.frame.slots (unused z e g) ∙ k)
        (special_on z e.to (eqb-false z x f) (unused z e g)) (inv.binds z e g)

    names_on : (z v : ℕ) (e f : Sight) (b c : Bool) → nat_eq z x ≡ b → nat_eq v x ≡ c → (if b then Some (sight y w) else sight_of R z) ≡ Some e → (if c then Some (sight y w) else sight_of R v) ≡ Some f → e.to ≡ f.to → z ≡ v
    names_on z v e f true true p q a b g = eqb-true z x p ∙ sym (eqb-true v x q)
    names_on z v e f true false p q a b g = absurd (unused v f b (sym g ∙ sym (ap (λ (e : Sight). e.to) (some_same a))))
    names_on z v e f false true p q a b g = absurd (unused z e a (g ∙ sym (ap (λ (e : Sight). e.to) (some_same b))))
    names_on z v e f false false p q a b g = inv.names z v e f a b g

    written_on : (z i : ℕ) (b : Bool) → nat_eq z x ≡ b → (if b then Some (length s.memory) else slot_of s.frame.slots z) ≡ Some i → (z ≡ x → ⊥) × Written h z → IsSetAt t.memory i
    written_on z i true f e w = absurd (w.0 (eqb-true z x f))
    written_on z i false f e w = set_more s.memory (lacking unset) i (inv.written z i e w.1)

    pub states_declare : StatesAlike V ((x, sight y w) ∷ R) Z Z' (a ∷ h) j1 t t'
    states_declare = record {
      input = inv.input;
      paired = record {
        same = λ q m. pair_same q (news q m);
        once = λ p q k l. pair_once p q k l (news p k) (news q l);
        once' = λ p q k l. pair_once' p q k l (news p k) (news q l);
        frozen = λ i v z. let e = inv.paired.frozen i v z in at_before s.memory (lacking unset) i (at_below s.memory i v e) ∙ e;
        frozen' = λ i v z. let e = inv.paired.frozen' i v z in at_before s'.memory (lacking unset) i (at_below s'.memory i v e) ∙ e;
        thawed = λ q m. pair_thawed q (news q m);
        thawed' = λ q m. pair_thawed' q (news q m);
      };
      framed = framed_new x s.frame.item s.frame s.memory (lacking unset) inv.framed;
      framed' = framed_new y s'.frame.item s'.frame s'.memory (lacking unset) inv.framed';
      names = λ z v e f p q. names_on z v e f (nat_eq z x) (nat_eq v x) refl refl p q;
      binds = λ z e f. binds_on z e (nat_eq z x) refl f;
      written = λ z i e k. ⊎_elim (λ f. absurd f) (λ f. written_on z i (nat_eq z x) refl e f) k;
      slotted = λ z k. ⊎_elim (λ f. absurd f) (λ f. let b = inv.slotted z f.1 in (b.0, old_slot x (length s.memory) z s.frame.slots f.0 ∙ b.1)) k;
      anchors = λ z i k. old_slot x (length s.memory) z s.frame.slots (λ e. unanchored i (subst (λ z. Z.anchored z i) e k)) ∙ inv.anchors z i k;
    }

    pub grown_declare : Grown j s s' j1 t t'
    grown_declare = record {
      more = more;
      fresh = λ q m. ⊎_elim (λ k. inl k) (λ k. inr (inl (omega (arith, k.0)))) (news q m);
      fresh' = λ q m. ⊎_elim (λ k. inl k) (λ k. inr (inl (omega (arith, k.1)))) (news q m);
      long = omega (arith, length_more s.memory (lacking unset));
      long' = omega (arith, length_more s'.memory (lacking unset));
      scope = λ z i e. scope_on z i (nat_eq z x) e;
      scope' = λ z i e. scope_on' z i (nat_eq z y) e;
      sets = λ i k. set_more s.memory (lacking unset) i k;
      fewer = le_refl _;
      fewer' = le_refl _;
    }
      where
        scope_on : (z i : ℕ) (b : Bool) → (if b then Some (length s.memory) else slot_of s.frame.slots z) ≡ Some i → (slot_of s.frame.slots z ≡ Some i) ⊎ (length s.memory ≤ i)
        scope_on z i true e = let f : length s.memory ≡ i = some_same e in inr (omega arith)
        scope_on z i false e = inl e

        scope_on' : (z i : ℕ) (b : Bool) → (if b then Some (length s'.memory) else slot_of s'.frame.slots z) ≡ Some i → (slot_of s'.frame.slots z ≡ Some i) ⊎ (length s'.memory ≤ i)
        scope_on' z i true e = let f : length s'.memory ≡ i = some_same e in inr (omega arith)
        scope_on' z i false e = inl e

  thawed_new : Thawed Z (length s.memory)
  thawed_new v z = let b = at_below s.memory _ v (inv.paired.frozen _ v z) in absurd (omega arith)

  thawed_new' : Thawed Z' (length s'.memory)
  thawed_new' v z = let b = at_below s'.memory _ v (inv.paired.frozen' _ v z) in absurd (omega arith)

  -- with a pair, or as a special one
  module _ (w : Hold) (loose : NotFixed w) where
    abbrev pub new_pair : Pair
    new_pair = pair (length s.memory) (length s'.memory) w

    news : (q : Pair) → In q (new_pair ∷ j) → In q j ⊎ New q
    news q (inl e) = inr (ap (λ (q : Pair). q.left) e, ap (λ (q : Pair). q.right) e)
    news q (inr m) = inl m

    one : (p q : Pair) → In p (new_pair ∷ j) → In q (new_pair ∷ j) → New p → New q → p ≡ q
    one p q (inl e) (inl f) a b = e ∙ sym f
    one p q (inl e) (inr m) a b = let c = left_below q m in let d = b.0 in absurd (omega arith)
    one p q (inr m) l a b = let c = left_below p m in let d = a.0 in absurd (omega arith)

    bind_plain : IsPlain Z Z' (new_pair ∷ j) t.frame t'.frame x y w
    bind_plain = record {
      left = length s.memory;
      right = length s'.memory;
      is_in = inl refl;
      at_text = new_slot x (length s.memory) s.frame.slots;
      at_answer = new_slot y (length s'.memory) s'.frame.slots;
      not_fixed = loose;
      thawed = thawed_new;
      thawed' = thawed_new';
    }

    pub states_plain : StatesAlike V ((x, sight y (plain w)) ∷ R) Z Z' (a ∷ h) (new_pair ∷ j) t t'
    states_plain = states_declare (plain w) (new_pair ∷ j) (λ p m. inr m) news one (λ u. bind_plain)

    pub grown_plain : Grown j s s' (new_pair ∷ j) t t'
    grown_plain = grown_declare (plain w) (new_pair ∷ j) (λ p m. inr m) news one (λ u. bind_plain)

  module _ (is_one : V.Special x) where
    bind_special : IsSpecial V Z Z' (a ∷ h) j t.frame t'.frame t.memory t'.memory x y
    bind_special = record {
      left = length s.memory;
      right = length s'.memory;
      at_text = new_slot x (length s.memory) s.frame.slots;
      at_answer = new_slot y (length s'.memory) s'.frame.slots;
      is_one = is_one;
      thawed = thawed_new;
      thawed' = thawed_new';
      same = λ l. record { text = lacking unset; answer = lacking unset; at_text = at_end s.memory (lacking unset); at_answer = at_end s'.memory (lacking unset); like = lacks };
      touched = λ q m e. let c = left_below q m in absurd (omega arith);
      touched' = λ q m e. let c = right_below q m in absurd (omega arith);
    }

    pub states_special : StatesAlike V ((x, sight y special) ∷ R) Z Z' (a ∷ h) j t t'
    states_special = states_declare special j (λ p m. m) (λ q m. inl m) (λ p q k l a b. let c = left_below p k in let d = a.0 in absurd (omega arith)) (λ u. bind_special)

    pub grown_special : Grown j s s' j t t'
    grown_special = grown_declare special j (λ p m. m) (λ q m. inl m) (λ p q k l a b. let c = left_below p k in let d = a.0 in absurd (omega arith)) (λ u. bind_special)
