-- An action of a binding leaves what is matched as it is, but for what it moves: what led through its variants still does.
use Rattle.std.proofs.Common.{◌≡◌, ℕ, zero, suc, Bool, true, false, nat_eq, List, [], ◌∷◌, ◌++◌, Option, Some, None, refl, sym, subst, ap, ◌∙◌, if◌then◌else◌, eqb-true}
use Rattle.rx_core.specs.declared.types.Step.{Step}
use Rattle.rx_typed.specs.Tree.{Root, variable, temporary, Temporary, Place, own}
use Rattle.rx_lower_walks.specs.Actions.{Act, Declare, Dead, Read, Write, Borrow, Test, Call, Build, Input, Print, Give, Subject, in_place, in_temporary, part}
use Rattle.rx_meaning.specs.Endings.{Cause, wrong, lacks, astray}
use Rattle.rx_meaning.specs.Straying.{why_no_part, why_not_found, why_not_written}
use Rattle.rx_meaning.specs.Values.{Lack, moved, unset, Value, lacking, unit_value, get, put, and_then, element, with_element, slot_of, State, with_memory, with_variable}
use Rattle.rx_meaning.specs.Results as results
use Rattle.rx_meaning.specs.Results.{Done, gives, or_ends}
use Rattle.rx_meaning.specs.Places.{Spot, in_slot, follow, spot, found, whole_value, reference_to, after_write}
use Rattle.rx_meaning.specs.Acting.{does_plainly}
use Rattle.rx_facts_tables.specs.Setting.{is_behind}
use Rattle.rx_meaning_keeping.specs.Strict.{looks_at_lack, with_slot, marked_in, marked_slot, marked_at, marked, then_marks, does_strictly}
use Rattle.rx_meaning_typed.proofs.Parts.{some_is, split}
use Rattle.rx_meaning_covered.specs.Ways.{Where, OnWay, IsHeld, root_value, Leads}
use Rattle.rx_meaning_covered.specs.Arms.{IsOfBinding}
use Rattle.rx_meaning_covered.proofs.Ways.{lack_way, put_way}

-- ---- memory

elements_with : (P : Value → Type 0) (M : List Value) (i : ℕ) (y : Value) → ((v : Value) → element M i ≡ Some v → P v → P y) → (j : ℕ) → Where (element M j) P → Where (element (with_element M i y) j) P
elements_with P [] i y k j h = h
elements_with P (v ∷ M) zero y k zero h = k v refl h
elements_with P (v ∷ M) zero y k (suc j) h = h
elements_with P (v ∷ M) (suc i) y k zero h = h
elements_with P (v ∷ M) (suc i) y k (suc j) h = elements_with P M i y k j h

elements_other : (P : Value → Type 0) (M : List Value) (i : ℕ) (y : Value) (j : ℕ) → (j ≡ i → ⊥) → Where (element M j) P → Where (element (with_element M i y) j) P
elements_other P [] i y j n h = h
elements_other P (v ∷ M) zero y zero n h = absurd (n refl)
elements_other P (v ∷ M) zero y (suc j) n h = h
elements_other P (v ∷ M) (suc i) y zero n h = h
elements_other P (v ∷ M) (suc i) y (suc j) n h = elements_other P M i y j (λ e. n (ap suc e)) h

elements_more : (P : Value → Type 0) (M : List Value) (y : Value) → P y → (j : ℕ) → Where (element M j) P → Where (element (M ++ y ∷ []) j) P
elements_more P [] y k zero h = k
elements_more P [] y k (suc j) h = tt
elements_more P (v ∷ M) y k zero h = h
elements_more P (v ∷ M) y k (suc j) h = elements_more P M y k j h

-- ---- the slot of a variable

abbrev SeenIn : ℕ → List Step → List Value → List (ℕ × ℕ) → Type 0
SeenIn x rs M bs = Where (and_then (slot_of bs x) (λ i. element M i)) (λ v. OnWay rs v)

abbrev Seen : ℕ → List Step → State → Type 0
Seen x rs s = SeenIn x rs s.memory s.frame.slots

other_memory : (x : ℕ) (rs : List Step) (M Z : List Value) (bs : List (ℕ × ℕ)) → ((j : ℕ) → slot_of bs x ≡ Some j → Where (element M j) (λ v. OnWay rs v) → Where (element Z j) (λ v. OnWay rs v)) → SeenIn x rs M bs → SeenIn x rs Z bs
other_memory x rs M Z bs k h = by (slot_of bs x) refl h
  where
    by : (o : Option ℕ) → slot_of bs x ≡ o → Where (and_then o (λ i. element M i)) (λ v. OnWay rs v) → Where (and_then o (λ i. element Z i)) (λ v. OnWay rs v)
    by None e h = tt
    by (Some j) e h = k j e h

slot_marked : (x : ℕ) (rs : List Step) (o : Option ℕ) (qs : List Step) (l : Lack) (s : State) → Seen x rs s → Seen x rs (marked_slot o qs l s)
slot_marked x rs None qs l s h = h
slot_marked x rs (Some i) qs l s h = other_memory x rs s.memory (marked_in s.memory i qs l) s.frame.slots (λ j e g. at j (element s.memory i) refl g) h
  where
    put_in : (j : ℕ) (v : Value) → element s.memory i ≡ Some v → (q : Option Value) → put qs (lacking l) v ≡ q → Where (element s.memory j) (λ v. OnWay rs v) → Where (element (with_slot s.memory i q) j) (λ v. OnWay rs v)
    put_in j v e None p g = g
    put_in j v e (Some y) p g = elements_with (λ v. OnWay rs v) s.memory i y (λ u f r. put_way qs l u y (subst (λ z. put qs (lacking l) z ≡ Some y) (some_is (sym e ∙ f)) p) rs r) j g

    at : (j : ℕ) (o : Option Value) → element s.memory i ≡ o → Where (element s.memory j) (λ v. OnWay rs v) → Where (element (with_slot s.memory i (and_then o (λ v. put qs (lacking l) v))) j) (λ v. OnWay rs v)
    at j None e g = g
    at j (Some v) e g = put_in j v e (put qs (lacking l) v) refl g

place_marked : (x : ℕ) (rs : List Step) (r : Root) (qs : List Step) (l : Lack) (s : State) → Seen x rs s → Seen x rs (marked_at r qs l s)
place_marked x rs (temporary t) qs l s h = h
place_marked x rs (variable y) qs l s h = by (is_behind qs)
  where
    by : (b : Bool) → Seen x rs (if b then s else marked_slot (slot_of s.frame.slots y) qs l s)
    by true = h
    by false = slot_marked x rs (slot_of s.frame.slots y) qs l s h

differs : (x y : ℕ) → (x ≡ y → ⊥) → nat_eq x y ≡ false
differs x y n = by (nat_eq x y) refl
  where
    by : (b : Bool) → nat_eq x y ≡ b → nat_eq x y ≡ false
    by true e = absurd (n (eqb-true x y e))
    by false e = e

declared_seen : (x : ℕ) (rs : List Step) (y : ℕ) (s : State) → (x ≡ y → ⊥) → Seen x rs s → Seen x rs (with_variable y s)
declared_seen x rs y s n h = rw (differs x y n) (other_memory x rs s.memory (s.memory ++ lacking unset ∷ []) s.frame.slots (λ j e g. elements_more (λ v. OnWay rs v) s.memory (lacking unset) (lack_way rs unset) j g) h)

-- ---- what an action gave

pub or_gives : {A : Type 0} (c : Cause) (o : Option A) (go : A → Done ℕ) (t : List ℕ) (v : Value) (s1 : State) → or_ends c o go ≡ gives t v s1 → (x : A) × (o ≡ Some x) × (go x ≡ gives t v s1)
or_gives c None go t v s1 e = absurd (cc)
or_gives c (Some x) go t v s1 e = (x, refl, e)

gives_state : {t u : List ℕ} {v w : Value} {s s1 : State} → ◌≡◌ {A = Done ℕ} (gives t v s) (gives u w s1) → s ≡ s1
gives_state e = cc

marks_gives : (a : Act) (r : Done ℕ) (t : List ℕ) (v : Value) (s1 : State) → then_marks a r ≡ gives t v s1 → (s0 : State) × (r ≡ gives t v s0) × (marked a s0 ≡ s1)
marks_gives a (gives w u s0) t v s1 e = (s0, cc, gives_state e)
marks_gives a (results.ends w x) t v s1 e = absurd (cc)

pub strict_gives : (a : Act) (vs : List Value) (s : State) (t : List ℕ) (v : Value) (s1 : State) → does_strictly a vs s ≡ gives t v s1 → (s0 : State) × (does_plainly a vs s ≡ gives t v s0) × (marked a s0 ≡ s1)
strict_gives a vs s t v s1 e = by (looks_at_lack a vs s) e
  where
    by : (b : Bool) → (if b then results.ends [] (wrong lacks) else then_marks a (does_plainly a vs s)) ≡ gives t v s1 → (s0 : State) × (does_plainly a vs s ≡ gives t v s0) × (marked a s0 ≡ s1)
    by true e = absurd (cc)
    by false e = marks_gives a (does_plainly a vs s) t v s1 e

-- ---- actions of bindings

abbrev pub SlotsApart : State → Type 0
SlotsApart s = (x y i : ℕ) → slot_of s.frame.slots x ≡ Some i → slot_of s.frame.slots y ≡ Some i → x ≡ y

module _ (x : ℕ) (rs : List Step) (s : State) (t : List ℕ) (v : Value) (s1 : State) where
  read_seen : (m : Bool) (p : Place) (d : Temporary) (vs : List Value) (s0 : State) → does_plainly (Read m p d) vs s ≡ gives t v s0 → marked (Read m p d) s0 ≡ s1 → Seen x rs s → Seen x rs s1
  read_seen m p d vs s0 e g h =
      let a = or_gives (why_not_found p vs s) (found p vs s) (λ f. or_ends lacks (whole_value f) (λ v. gives [] v s)) t v s0 e in
      let b = or_gives lacks (whole_value a.0) (λ v. gives [] v s) t v s0 a.2 in
      by m (subst (λ z. marked (Read m p d) z ≡ s1) (sym (gives_state b.2)) g)
    where
      by : (m : Bool) → marked (Read m p d) s ≡ s1 → Seen x rs s1
      by true q = subst (λ z. Seen x rs z) q (place_marked x rs p.root p.steps moved s h)
      by false q = subst (λ z. Seen x rs z) q h

  borrow_seen : (m : Bool) (p : Place) (d : Temporary) (vs : List Value) (s0 : State) → does_plainly (Borrow m p d) vs s ≡ gives t v s0 → s0 ≡ s1 → Seen x rs s → Seen x rs s1
  borrow_seen m p d vs s0 e g h =
      let a = or_gives (why_not_found p vs s) (spot p vs s) (λ at. or_ends astray (reference_to m at) (λ v. gives [] v s)) t v s0 e in
      let b = or_gives astray (reference_to m a.0) (λ v. gives [] v s) t v s0 a.2 in
      subst (λ z. Seen x rs z) (gives_state b.2 ∙ g) h

  write_seen : (y : ℕ) (d : Temporary) (ss : List Step) (vs : List Value) (s0 : State) → SlotsApart s → (x ≡ y → ⊥) → does_plainly (Write (own y) d ss) vs s ≡ gives t v s0 → s0 ≡ s1 → Seen x rs s → Seen x rs s1
  write_seen y d ss [] s0 ap n e g h = absurd (cc)
  write_seen y d ss (w ∷ u ∷ vs) s0 ap n e g h = absurd (cc)
  write_seen y d ss (w ∷ []) s0 apart n e g h =
      let a = or_gives (why_no_part ss w) (get ss w) (λ u. or_ends (why_not_found (own y) [] s) (spot (own y) [] s) (λ at. or_ends (why_not_written s.memory at) (after_write u s.memory at) (λ M. gives [] unit_value (with_memory s M)))) t v s0 e in
      let b = or_gives (why_not_found (own y) [] s) (spot (own y) [] s) (λ at. or_ends (why_not_written s.memory at) (after_write a.0 s.memory at) (λ M. gives [] unit_value (with_memory s M))) t v s0 a.2 in
      let c = or_gives (why_not_written s.memory b.0) (after_write a.0 s.memory b.0) (λ M. gives [] unit_value (with_memory s M)) t v s0 b.2 in
      at a.0 b.0 c.0 (slot_of s.frame.slots y) refl b.1 c.1 (gives_state c.2 ∙ g)
    where
      at : (u : Value) (to : Spot) (M : List Value) (o : Option ℕ) → slot_of s.frame.slots y ≡ o → and_then (and_then o (λ i. Some (in_slot i [] true))) (λ z. follow s.memory [] z) ≡ Some to → after_write u s.memory to ≡ Some M → with_memory s M ≡ s1 → Seen x rs s1
      at u to M None e f k q = absurd (cc)
      at u to M (Some i) e f k q = let k1 = subst (λ z. after_write u s.memory z ≡ Some M) (sym (some_is f)) k in let c = split (element s.memory i) (λ z. Some (with_element s.memory i u)) M k1 in
          subst (λ z. Seen x rs z) q (subst (λ Z. SeenIn x rs Z s.frame.slots) (some_is c.2) (other_memory x rs s.memory (with_element s.memory i u) s.frame.slots (λ j p r. elements_other (λ v. OnWay rs v) s.memory i u j (λ z. n (apart x y i (subst (λ k. slot_of s.frame.slots x ≡ Some k) z p) e)) r) h))

-- of an action of a binding whose variable is not the one that is matched
abbrev OfOther : ℕ → Act → Type 0
OfOther x (Read m p d) = Unit {0}
OfOther x (Borrow m p d) = Unit {0}
OfOther x (Declare y) = x ≡ y → ⊥
OfOther x (Write p d ss) = (y : ℕ) × (p ≡ own y) × (x ≡ y → ⊥)
OfOther x _ = ⊥

act_seen : (x : ℕ) (rs : List Step) (a : Act) (vs : List Value) (s : State) (t : List ℕ) (v : Value) (s1 s0 : State) → SlotsApart s → OfOther x a → does_plainly a vs s ≡ gives t v s0 → marked a s0 ≡ s1 → Seen x rs s → Seen x rs s1
act_seen x rs (Read m p d) vs s t v s1 s0 ap h e g k = read_seen x rs s t v s1 m p d vs s0 e g k
act_seen x rs (Borrow m p d) vs s t v s1 s0 ap h e g k = borrow_seen x rs s t v s1 m p d vs s0 e g k
act_seen x rs (Declare y) vs s t v s1 s0 ap h e g k = subst (λ z. Seen x rs z) (gives_state e ∙ g) (declared_seen x rs y s h k)
act_seen x rs (Write p d ss) vs s t v s1 s0 ap h e g k = write_seen x rs s t v s1 h.0 d ss vs s0 ap h.2 (subst (λ z. does_plainly (Write z d ss) vs s ≡ gives t v s0) h.1 e) g k
act_seen x rs (Dead y) vs s t v s1 s0 ap h e g k = absurd h
act_seen x rs (Test p c) vs s t v s1 s0 ap h e g k = absurd h
act_seen x rs (Call f ts d) vs s t v s1 s0 ap h e g k = absurd h
act_seen x rs (Build m js ts d) vs s t v s1 s0 ap h e g k = absurd h
act_seen x rs (Input d) vs s t v s1 s0 ap h e g k = absurd h
act_seen x rs (Print d) vs s t v s1 s0 ap h e g k = absurd h
act_seen x rs (Give d) vs s t v s1 s0 ap h e g k = absurd h

of_other : (p : Place) (x : ℕ) → p.root ≡ variable x → (a : Act) → IsOfBinding (in_place p) a → OfOther x a
of_other p x q (Read m r d) h = tt
of_other p x q (Borrow m r d) h = tt
of_other p x q (Declare y) h = λ e. h (q ∙ ap variable e)
of_other p x q (Write r d ss) h = (h.0, h.1, λ e. h.2 (q ∙ ap variable e))
of_other p x q (Dead y) h = h
of_other p x q (Test r c) h = h
of_other p x q (Call f ts d) h = h
of_other p x q (Build m js ts d) h = h
of_other p x q (Input d) h = h
of_other p x q (Print d) h = h
of_other p x q (Give d) h = h

held_leads : (t : Temporary) (ss : List Step) (us : List Value) (s s1 : State) → IsHeld (temporary t) us × Where (root_value (temporary t) us s) (λ v. OnWay ss v) → IsHeld (temporary t) us × Where (root_value (temporary t) us s1) (λ v. OnWay ss v)
held_leads t ss [] s s1 h = h
held_leads t ss (u ∷ us) s s1 h = h

pub strict_carries : (S : Subject) (us : List Value) (ss : List Step) (a : Act) (vs : List Value) (s : State) (t : List ℕ) (v : Value) (s1 : State) → SlotsApart s → IsOfBinding S a → does_strictly a vs s ≡ gives t v s1
    → Leads (part S ss) us s → Leads (part S ss) us s1
strict_carries (in_temporary d) us ss a vs s t v s1 apart h e k = held_leads d ss us s s1 k
strict_carries (in_place p) us ss a vs s t v s1 apart h e k = by p.root refl k
  where
    by : (r : Root) → p.root ≡ r → IsHeld r us × Where (root_value r us s) (λ v. OnWay (p.steps ++ ss) v) → IsHeld r us × Where (root_value r us s1) (λ v. OnWay (p.steps ++ ss) v)
    by (temporary d) q k = held_leads d (p.steps ++ ss) us s s1 k
    by (variable x) q k = let g = strict_gives a vs s t v s1 e in (tt, act_seen x (p.steps ++ ss) a vs s t v s1 g.0 apart (of_other p x q a h) g.1 g.2 k.1)
