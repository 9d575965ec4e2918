-- What lacks a value in the slot of a variable is lost on the walk: it stays so behind an action that leaves memory, a new
-- variable, a mark, and a write.
use Rattle.std.proofs.Common.{◌≡◌, ℕ, ◌<◌, ◌≤◌, ◌+◌, Bool, true, false, nat_eq, List, [], ◌∷◌, ◌++◌, length, Option, Some, None, refl, sym, ap, subst, ◌∙◌, eqb-true, if◌then◌else◌, arith, length-append, append-nil}
use Rattle.std.proofs.lemmas.Bool.Decides.{Decides-eqb}
use Rattle.rx_core.specs.declared.types.Step.{Step}
use Rattle.rx_typed.specs.Tree.{Place, Temporary}
use Rattle.rx_lower_walks.specs.Actions.{Declare, Write, Action, does}
use Rattle.rx_meaning.specs.Values.{Lack, unset, Value, lacking, is_set, get, put, element, with_element, slot_of, and_then, State}
use Rattle.rx_meaning.specs.Places.{in_slot, spot}
use Rattle.rx_facts_tables.specs.Places.{Frame, is_part}
use Rattle.rx_facts_tables.specs.Setting.{is_behind, sets, unsets}
use Rattle.rx_facts_tables.specs.Wholes.{placed, regains, loses, is_variable}
use Rattle.rx_meaning_keeping.specs.Pending.{Pending}
use Rattle.rx_meaning_keeping.specs.Ready.{HasPart}
use Rattle.rx_meaning_keeping.specs.Strict.{with_slot, marked_slot}
use Rattle.rx_meaning_keeping.specs.Lacking.{Off, Lost, World, Here, Marks, Marked}
use Rattle.rx_meaning_keeping.proofs.Parts.{Parted}
use Rattle.rx_meaning_keeping.proofs.Slots.{behind_front, way_is_plain, and_no, set_not_lacking, slot_old, slot_new, some_is, length_with, WrittenLacks, of_written, of_old, written_lacks}
use Rattle.rx_meaning_keeping.proofs.Lost.{lost_still, lost_now, lost_written, spot_plain, slot_is}

-- ---- the invariant
module _ (F : Frame) (parts : Parted F) (k : World) where
  pub inv_more : (w : List Action) (a : Action) (M : List Value) (bs : List (ℕ × ℕ)) (K K1 : Pending) → ((n : ℕ) → sets F n a.act ≡ false) → ((x : ℕ) (qs : List Step) → regains x qs a.act ≡ false) → Marks F k w M bs K → Here K1 → Marks F k (w ++ a ∷ []) M bs K1
  inv_more w a M bs K K1 h h2 i e = record {
    slots = i.slots;
    apart = i.apart;
    grows = i.grows;
    outer = i.outer;
    here = e;
    lost = λ x j v qs l p q r. lost_still F parts w a x qs (λ n z. h n) (h2 x qs) (i.lost x j v qs l p q r);
  }

  -- a new variable
  pub inv_declared : (w : List Action) (n x : ℕ) (M : List Value) (bs : List (ℕ × ℕ)) (K : Pending) → HasPart F x [] → Marks F k w M bs K → Marks F k (w ++ does n (Declare x) ∷ []) (M ++ lacking unset ∷ []) ((x, length M) ∷ bs) K
  inv_declared w n x M bs K has i = record {
    slots = λ y j p. slots_of (nat_eq y x) y j p;
    apart = λ y z j p q. apart_of y z j (nat_eq y x) refl (nat_eq z x) refl p q;
    grows = omega (arith, e, i.grows);
    outer = λ j v qs l p q r. i.outer j v qs l p (subst (λ o. o ≡ Some v) (slot_old M j (lacking unset) (omega (arith, i.grows))) q) r;
    here = i.here;
    lost = λ y j v qs l p q r. lost_of y j v qs l (nat_eq y x) refl p q r;
  }
    where
      e : length (M ++ lacking unset ∷ []) ≡ length M + 1
      e = length-append M (lacking unset ∷ [])

      slots_of : (b : Bool) (y j : ℕ) → (if b then Some (length M) else slot_of bs y) ≡ Some j → (length k.memory ≤ j) × (j < length (M ++ lacking unset ∷ []))
      slots_of true y j p = let q = some_is p in (omega (arith, q, i.grows), omega (arith, q, e))
      slots_of false y j p = let q = i.slots y j p in (q.0, omega (arith, q.1, e))

      apart_of : (y z j : ℕ) (b : Bool) → nat_eq y x ≡ b → (c : Bool) → nat_eq z x ≡ c → (if b then Some (length M) else slot_of bs y) ≡ Some j → (if c then Some (length M) else slot_of bs z) ≡ Some j → y ≡ z
      apart_of y z j true f true g p q = eqb-true y x f ∙ sym (eqb-true z x g)
      apart_of y z j true f false g p q = let r = some_is p in let t = i.slots z j q in absurd (omega (arith, r, t.1))
      apart_of y z j false f true g p q = let r = some_is q in let t = i.slots y j p in absurd (omega (arith, r, t.1))
      apart_of y z j false f false g p q = i.apart y z j p q

      at_top : (qs : List Step) (v : Value) (l : Lack) → lacking unset ≡ v → get qs v ≡ Some (lacking l) → Lost F (w ++ does n (Declare x) ∷ []) x qs
      at_top [] v l a r = lost_now F parts w (does n (Declare x)) x [] (λ m. refl) (λ m q. q) refl (rw ((Decides-eqb x x).1 refl) refl) has
      at_top (s ∷ qs) v l a r = let q = subst (λ z. get (s ∷ qs) z ≡ Some (lacking l)) (sym a) r in cc

      lost_of : (y j : ℕ) (v : Value) (qs : List Step) (l : Lack) (b : Bool) → nat_eq y x ≡ b → (if b then Some (length M) else slot_of bs y) ≡ Some j → element (M ++ lacking unset ∷ []) j ≡ Some v → get qs v ≡ Some (lacking l) → Lost F (w ++ does n (Declare x) ∷ []) y qs
      lost_of y j v qs l true f p q r = subst (λ z. Lost F (w ++ does n (Declare x) ∷ []) z qs) (sym (eqb-true y x f))
          (at_top qs v l (some_is (sym (slot_new M (lacking unset)) ∙ subst (λ z. element (M ++ lacking unset ∷ []) z ≡ Some v) (sym (some_is p)) q)) r)
      lost_of y j v qs l false f p q r = lost_still F parts w (does n (Declare x)) y qs (λ m z. refl) refl (i.lost y j v qs l p (sym (slot_old M j (lacking unset) (i.slots y j p).1) ∙ q) r)

  -- a part is marked
  pub inv_marked : (w : List Action) (a : Action) (x i : ℕ) (ss : List Step) (c : Lack) (M : List Value) (u y : Value) (bs : List (ℕ × ℕ)) (K K1 : Pending)
      → ((m : ℕ) → sets F m a.act ≡ false) → ((m : ℕ) → is_part F (placed x ss) m ≡ true → unsets F m a.act ≡ true) → ((z : ℕ) (qs : List Step) → regains z qs a.act ≡ false) → loses x ss a.act ≡ true
      → HasPart F x ss → slot_of bs x ≡ Some i → element M i ≡ Some u → put ss (lacking c) u ≡ Some y → Marks F k w M bs K → Here K1 → Marks F k (w ++ a ∷ []) (with_element M i y) bs K1
  inv_marked w a x i ss c M u y bs K K1 h1 h2 h3 h4 has b e p inv h = record {
    slots = λ z j q. let r = inv.slots z j q in (r.0, omega (arith, r.1, length_with M i y));
    apart = inv.apart;
    grows = omega (arith, inv.grows, length_with M i y);
    here = h;
    outer = λ j v qs l t q r. outer_of j v qs l t (written_lacks M j i ss qs (lacking c) u y v l e p q r);
    lost = λ z j v qs l t q r. lost_of z j v qs l t (written_lacks M j i ss qs (lacking c) u y v l e p q r);
  }
    where
      outer_of : (j : ℕ) (v : Value) (qs : List Step) (l : Lack) → j < length k.memory → WrittenLacks M j i qs ss (lacking c) l → (u : Value) × (m : Lack) × (element k.memory j ≡ Some u) × (get qs u ≡ Some (lacking m))
      outer_of j v qs l t (of_written rs d f g) = let q = inv.slots x i b in absurd (omega (arith, t, d, q.0))
      outer_of j v qs l t (of_old o f) = inv.outer j o.0 qs o.1 t o.2 o.3

      now : Lost F (w ++ a ∷ []) x ss
      now = lost_now F parts w a x ss h1 h2 (h3 x ss) h4 has

      whole_way : (rs : List Step) (l : Lack) → get rs (lacking c) ≡ Some (lacking l) → rs ≡ []
      whole_way [] l g = refl
      whole_way (s ∷ rs) l g = cc

      lost_of : (z j : ℕ) (v : Value) (qs : List Step) (l : Lack) → slot_of bs z ≡ Some j → WrittenLacks M j i qs ss (lacking c) l → Lost F (w ++ a ∷ []) z qs
      lost_of z j v qs l t (of_written rs d f g) =
          let q = f ∙ ap (λ o. ss ++ o) (whole_way rs l g) ∙ append-nil ss in
          let e1 = inv.apart z x i (subst (λ o. slot_of bs z ≡ Some o) d t) b in
          subst (λ o. Lost F (w ++ a ∷ []) o qs) (sym e1) (subst (λ o. Lost F (w ++ a ∷ []) x o) (sym q) now)
      lost_of z j v qs l t (of_old o f) = lost_still F parts w a z qs (λ m q. h1 m) (h3 z qs) (inv.lost z j o.0 qs o.1 t o.2 o.3)

  -- a part of the slot of a variable, where it is there
  pub slot_marked : (w : List Action) (a : Action) (x : ℕ) (ss : List Step) (c : Lack) (s : State) (K K1 : Pending)
      → ((m : ℕ) → sets F m a.act ≡ false) → ((m : ℕ) → is_part F (placed x ss) m ≡ true → unsets F m a.act ≡ true) → ((z : ℕ) (qs : List Step) → regains z qs a.act ≡ false) → loses x ss a.act ≡ true
      → HasPart F x ss → Marked F k w s K → Here K1 → Marked F k (w ++ a ∷ []) (marked_slot (slot_of s.frame.slots x) ss c s) K1
  slot_marked w a x ss c s K K1 h1 h2 h3 h4 has i h = slot (slot_of s.frame.slots x) refl
    where
      same : Marked F k (w ++ a ∷ []) s K1
      same = inv_more w a s.memory s.frame.slots K K1 h1 h3 i h

      put_in : (j : ℕ) → slot_of s.frame.slots x ≡ Some j → (o : Option Value) → element s.memory j ≡ o → (q : Option Value) → and_then o (λ v. put ss (lacking c) v) ≡ q
          → Marks F k (w ++ a ∷ []) (with_slot s.memory j q) s.frame.slots K1
      put_in j b o e None f = same
      put_in j b (Some u) e (Some y) f = inv_marked w a x j ss c s.memory u y s.frame.slots K K1 h1 h2 h3 h4 has b e f i h
      put_in j b None e (Some y) f = cc

      slot : (o : Option ℕ) → slot_of s.frame.slots x ≡ o → Marked F k (w ++ a ∷ []) (marked_slot o ss c s) K1
      slot None b = same
      slot (Some j) b = put_in j b (element s.memory j) refl (and_then (element s.memory j) (λ v. put ss (lacking c) v)) refl

  -- a part is written
  pub inv_written : (w : List Action) (n : ℕ) (p : Place) (t : Temporary) (ts : List Step) (s : State) (i : ℕ) (ss : List Step) (u v y : Value) (K K1 : Pending) → is_set v ≡ true
      → spot p [] s ≡ Some (in_slot i ss true) → element s.memory i ≡ Some u → put ss v u ≡ Some y
      → Marked F k w s K → Here K1 → Marks F k (w ++ does n (Write p t ts) ∷ []) (with_element s.memory i y) s.frame.slots K1
  inv_written w n p t ts s i ss u v y K K1 set to e q inv h = record {
    slots = λ z j a. let r = inv.slots z j a in (r.0, omega (arith, r.1, length_with s.memory i y));
    apart = inv.apart;
    grows = omega (arith, inv.grows, length_with s.memory i y);
    here = h;
    outer = λ j x qs l a b r. outer_of j qs l a (written_lacks s.memory j i ss qs v u y x l e q b r);
    lost = λ z j x qs l a b r. lost_of z j qs l a (written_lacks s.memory j i ss qs v u y x l e q b r) (is_behind p.steps) refl;
  }
    where
      outer_of : (j : ℕ) (qs : List Step) (l : Lack) → j < length k.memory → WrittenLacks s.memory j i qs ss v l → (u : Value) × (m : Lack) × (element k.memory j ≡ Some u) × (get qs u ≡ Some (lacking m))
      outer_of j qs l a (of_written rs c f g) = absurd (set_not_lacking rs v l set g)
      outer_of j qs l a (of_old o f) = inv.outer j o.0 qs o.1 a o.2 o.3

      same_slot : (z j : ℕ) (qs : List Step) (c m : ℕ) → slot_of s.frame.slots z ≡ Some j → z ≡ c → slot_of s.frame.slots c ≡ Some m → in_slot m p.steps true ≡ in_slot i ss true → (j ≡ i → Off qs ss) → Off qs p.steps
      same_slot z j qs c m a r b e1 f =
          let g1 = some_is (sym (subst (λ o. slot_of s.frame.slots o ≡ Some j) r a) ∙ b) in
          let g2 = slot_is e1 in subst (λ o. Off qs o) (sym g2.1) (f (g1 ∙ g2.0))

      lost_of : (z j : ℕ) (qs : List Step) (l : Lack) → slot_of s.frame.slots z ≡ Some j → WrittenLacks s.memory j i qs ss v l → (b : Bool) → is_behind p.steps ≡ b → Lost F (w ++ does n (Write p t ts) ∷ []) z qs
      lost_of z j qs l a (of_written rs c f g) b e1 = absurd (set_not_lacking rs v l set g)
      lost_of z j qs l a (of_old o f) true e1 = lost_still F parts w (does n (Write p t ts)) z qs (λ m r. rw e1) (rw (behind_front p.steps qs e1 (way_is_plain qs o.0 (lacking o.1) o.3)) (and_no (is_variable p.root z))) (inv.lost z j o.0 qs o.1 a o.2 o.3)
      lost_of z j qs l a (of_old o f) false e1 =
          let g = spot_plain s.memory s.frame p.root p.steps (in_slot i ss true) e1 to in
          lost_written F parts w n z g.0 p t ts qs g.2 (λ r. same_slot z j qs g.0 g.1 a r g.3 g.4 f) (inv.lost z j o.0 qs o.1 a o.2 o.3)
