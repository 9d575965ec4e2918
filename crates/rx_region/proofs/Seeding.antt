-- Rows and tables that are filled where variables and temporaries are live.
use Rattle.std.proofs.Common.{◌≡◌, ◌↔◌, ◌⊎◌, inl, inr, ℕ, zero, suc, ◌+◌, ◌*◌, ◌<◌, ◌≤◌, Bool, true, false, ◌||◌, ◌&&◌, ◌==◌, List, [], ◌∷◌, length, slice_get, Option, Some, None, refl, sym, ap, ◌∙◌, subst, arith, true≢false}
use Rattle.std.proofs.lemmas.Bool.{cases_eq, eq-eqb, eqb-true}
use Rattle.rx_graph_bits.specs.Rows.{holds, Bounded, Inserted}
use Rattle.rx_graph.specs.Facts.{has}
use Rattle.rx_graph.specs.Tables.{at, Regular, Spread}
use Rattle.rx_graph.proofs.Spreading.{one_of, both_of, or_true}
use Rattle.rx_graph_closure.specs.Filling.{HasExactly, Added}
use Rattle.rx_graph_closure.proofs.Tables.{added_then, added_so}
use Rattle.rx_graph_cycles.specs.Reaches.{IsIn}
use Rattle.rx_typed.specs.Tree.{Root, variable, temporary, Temporary}
use Rattle.rx_lower_walks.specs.Walks.{Among, here, there}
use Rattle.rx_lower_walks.specs.Graph.{Site, site_at, Path, go}
use Rattle.rx_facts_tables.specs.Along.{ahead}
use Rattle.rx_lower_lifetimes.specs.Lowered.{Lifetimes}
use Rattle.rx_facts_tables.specs.declared.table.LiveTable.{LiveTable}
use Rattle.rx_facts_tables.specs.Live.{IsLive, living}
use Rattle.rx_region.specs.Seeds.{LiveBefore, LivedAmong, Lived, VariableLived, TemporaryLived, Grows, InsertedIf}

-- ---- one row

pub inserted_so : (n : ℕ) (old new : List ℕ) → Inserted old new n → Bounded new → InsertedIf true n old new
inserted_so n old new h b = record {
  width = h.width;
  bounded = λ _. b;
  holds = λ i k. (λ e. came i (one_of (i == n) (holds old i) (sym (h.holds i k) ∙ e)), λ x. h.holds i k ∙ goes i x);
} where
  came : (i : ℕ) → ((i == n) ≡ true) ⊎ (holds old i ≡ true) → (holds old i ≡ true) ⊎ ((true ≡ true) × (i ≡ n))
  came i (inl e) = inr (refl, eqb-true i n e)
  came i (inr e) = inl e

  goes : (i : ℕ) → (holds old i ≡ true) ⊎ ((true ≡ true) × (i ≡ n)) → (i == n || holds old i) ≡ true
  goes i (inl e) = ap (λ b. i == n || b) e ∙ or_true (i == n)
  goes i (inr e) = ap (λ b. b || holds old i) (eq-eqb i n e.1)

pub not_inserted : (n : ℕ) (row : List ℕ) → InsertedIf false n row row
not_inserted n row = record { width = refl; bounded = λ b. b; holds = λ i k. (λ e. inl e, λ x. same i x) } where
  same : (i : ℕ) → (holds row i ≡ true) ⊎ ((false ≡ true) × (i ≡ n)) → holds row i ≡ true
  same i (inl e) = e
  same i (inr e) = absurd (true≢false (sym e.0))

-- a site is one where it is live
site_there : (g : List Site) (p : ℕ) (s : Site) → site_at g p ≡ Some s → p < length g
site_there [] p s e = absurd (none_is s e) where
  none_is : (s : Site) → None ≡ Some s → ⊥
  none_is s e = subst (λ o. Is o) e tt where
    Is : Option Site → Type 0
    Is None = Unit {0}
    Is (Some x) = ⊥
site_there (x ∷ g) zero s e = omega arith
site_there (x ∷ g) (suc p) s e = let rest = site_there g p s e in omega (arith, rest)

only : (p q : ℕ) → Among q (p ∷ []) → q ≡ p
only p q here = refl
only p q (there h) = absurd (none q h) where
  none : (q : ℕ) → Among q [] → ⊥
  none q h = elim h [ ]

pub live_within : (g : List Site) (r : Root) (p : ℕ) → IsLive g r p → p < length g
live_within g r p h = on_path h.0 h.1 h.2 where
  on_path : (us : List _) → Path g (p ∷ []) us → ahead (living r) us ≡ true → p < length g
  on_path [] path e = absurd (true≢false (sym e))
  on_path (u ∷ us) (go q s at is rest) e = subst (λ x. x < length g) (only p q at) (site_there g q s is)

pub no_site : (w : ℕ) (row : List ℕ) (g : List Site) (r : Root) → length row ≡ w → Bounded row → ((i : ℕ) → holds row i ≡ false) → HasExactly w row (LiveBefore g r 0)
no_site w row g r e b h = record { width = e; bounded = b; exact = λ i k. (λ x. absurd (true≢false (sym x ∙ h i)), λ x. absurd (let y = x.before in omega (arith, y))) }

pub site_more : (w k : ℕ) (old new : List ℕ) (g : List Site) (r : Root) (b : Bool) → HasExactly w old (LiveBefore g r k) → InsertedIf b k old new
    → ((b ≡ true) ↔ IsLive g r k) → HasExactly w new (LiveBefore g r (k + 1))
site_more w k old new g r b one more is = record {
  width = more.width ∙ one.width;
  bounded = more.bounded one.bounded;
  exact = λ i j. let f = one.exact i j in let h = more.holds i (subst (λ v. i < 64 * v) (sym one.width) j) in
      (λ e. came i f.0 (h.0 e), λ x. h.1 (goes i f.1 x (cases_eq i k)));
} where
  came : (i : ℕ) → (holds old i ≡ true → LiveBefore g r k i) → (holds old i ≡ true) ⊎ ((b ≡ true) × (i ≡ k)) → LiveBefore g r (k + 1) i
  came i f (inl e) = let x = f e in let y = x.before in record { before = omega (arith, y); live = x.live }
  came i f (inr e) = let y = e.1 in record { before = omega (arith, y); live = subst (λ m. IsLive g r m) (sym e.1) (is.0 e.0) }

  goes : (i : ℕ) → (LiveBefore g r k i → holds old i ≡ true) → LiveBefore g r (k + 1) i → (i ≡ k) ⊎ (i ≡ k → ⊥) → (holds old i ≡ true) ⊎ ((b ≡ true) × (i ≡ k))
  goes i f x (inl e) = inr (is.1 (subst (λ m. IsLive g r m) e x.live), e)
  goes i f x (inr d) = inl (let y = x.before in f (record { before = omega (arith, y, d); live = x.live }))

-- ---- tables

pub in_list : (ls : List ℕ) (m : ℕ) → has ls m ≡ true → IsIn ls m
in_list [] m e = absurd (true≢false (sym e))
in_list (l ∷ ls) m e = either (one_of (m == l) (has ls m) e) (in_list ls m) where
  either : ((m == l) ≡ true) ⊎ (has ls m ≡ true) → (has ls m ≡ true → IsIn ls m) → (l ≡ m) ⊎ IsIn ls m
  either (inl x) rest = inl (sym (eqb-true m l x))
  either (inr x) rest = inr (rest x)

pub list_in : (ls : List ℕ) (m : ℕ) → IsIn ls m → has ls m ≡ true
list_in [] m h = absurd h
list_in (l ∷ ls) m (inl e) = ap (λ b. b || has ls m) (eq-eqb m l (sym e))
list_in (l ∷ ls) m (inr h) = ap (λ b. m == l || b) (list_in ls m h) ∙ or_true (m == l)

pub spread_lived : (w n : ℕ) (A B : List (List ℕ)) (ls row : List ℕ) (g : List Site) (r : Root) (grown : Bool) → n ≡ length g → HasExactly w row (LiveBefore g r n)
    → Spread (length row) A B ls row grown → Added w A B (LivedAmong ls g r)
spread_lived w n A B ls row g r grown is row_is spread = record {
  regular = subst (λ u. Regular (length A) u B) row_is.width spread.regular;
  exact = λ m i k j. (λ e. came m i j (one_of (at A m i) (has ls m && holds row i) (sym (spread.at m i k) ∙ e)), λ x. spread.at m i k ∙ goes m i j x);
} where
  came : (m i : ℕ) → i < 64 * w → (at A m i ≡ true) ⊎ ((has ls m && holds row i) ≡ true) → (at A m i ≡ true) ⊎ LivedAmong ls g r m i
  came m i j (inl e) = inl e
  came m i j (inr e) = let b = both_of (has ls m) (holds row i) e in inr (record { live = ((row_is.exact i j).0 b.1).live; among = in_list ls m b.0 })

  both : (a b c : Bool) → b ≡ true → c ≡ true → (a || (b && c)) ≡ true
  both true b c x y = refl
  both false b c x y = ap (λ k. k && c) x ∙ y

  first : (a b : Bool) → a ≡ true → (a || b) ≡ true
  first a b e = ap (λ k. k || b) e

  goes : (m i : ℕ) → i < 64 * w → (at A m i ≡ true) ⊎ LivedAmong ls g r m i → (at A m i || (has ls m && holds row i)) ≡ true
  goes m i j (inl e) = first (at A m i) (has ls m && holds row i) e
  goes m i j (inr x) = both (at A m i) (has ls m) (holds row i) (list_in ls m x.among)
      ((row_is.exact i j).1 (record { before = subst (λ k. i < k) (sym is) (live_within g r i x.live); live = x.live }))

pub nothing_added : (w : ℕ) (T : List (List ℕ)) (P : ℕ → ℕ → Type 0) → Regular (length T) w T → ((m i : ℕ) → P m i → ⊥) → Added w T T P
nothing_added w T P h none = record { regular = h; exact = λ m i k j. (λ e. inl e, λ x. same m i x) } where
  same : (m i : ℕ) → (at T m i ≡ true) ⊎ P m i → at T m i ≡ true
  same m i (inl e) = e
  same m i (inr p) = absurd (none m i p)

pub grows_none : (t : LiveTable) (n w : ℕ) (T : List (List ℕ)) (P : List Site → ℕ → ℕ → Type 0) → Regular (length T) w T → ((g : List Site) (m i : ℕ) → P g m i → ⊥) → Grows t n w P T T
grows_none t n w T P h none = record { regular = h; added = λ g lives is. nothing_added w T (P g) h (none g) }

pub grows_then : (t : LiveTable) (n w : ℕ) (A B C : List (List ℕ)) (P Q R : List Site → ℕ → ℕ → Type 0) → Regular (length A) w A → Grows t n w P A B
    → Grows t n w Q B C → ((g : List Site) (m i : ℕ) → R g m i → P g m i ⊎ Q g m i) → ((g : List Site) (m i : ℕ) → P g m i → R g m i)
    → ((g : List Site) (m i : ℕ) → Q g m i → R g m i) → Grows t n w R A C
grows_then t n w A B C P Q R start one more apart first second = record {
  regular = subst (λ k. Regular k w C) one.regular.count more.regular;
  added = λ g lives is. added_then w A B C (P g) (Q g) (R g) (one.added g lives is) (more.added g lives is) (apart g) (first g) (second g);
}

pub regular_again : (t : LiveTable) (n w : ℕ) (A B : List (List ℕ)) (P : List Site → ℕ → ℕ → Type 0) → Grows t n w P A B → Regular (length B) w B
regular_again t n w A B P h = subst (λ k. Regular k w B) (sym h.regular.count) h.regular

-- the next variable, the next temporary
module _ (t : LiveTable) (n w : ℕ) (L : Lifetimes) where
  pub variable_more : (k : ℕ) (A B C : List (List ℕ)) → Regular (length A) w A → Grows t n w (λ g. VariableLived L g k) A B → Grows t n w (λ g. Lived L g (variable k)) B C
      → Grows t n w (λ g. VariableLived L g (k + 1)) A C
  variable_more k A B C h one more = grows_then t n w A B C (λ g. VariableLived L g k) (λ g. Lived L g (variable k)) (λ g. VariableLived L g (k + 1)) h one more
      (λ g m i x. apart g m i x (cases_eq x.number k))
      (λ g m i x. let y = x.below in record { number = x.number; below = omega (arith, y); lived = x.lived })
      (λ g m i x. record { number = k; below = omega arith; lived = x })
    where
      apart : (g : List Site) (m i : ℕ) (x : VariableLived L g (k + 1) m i) → (x.number ≡ k) ⊎ (x.number ≡ k → ⊥) → VariableLived L g k m i ⊎ Lived L g (variable k) m i
      apart g m i x (inl e) = inr (subst (λ y. Lived L g (variable y) m i) e x.lived)
      apart g m i x (inr d) = let y = x.below in inl (record { number = x.number; below = omega (arith, y, d); lived = x.lived })

  pub variable_end : (k c : ℕ) (A B : List (List ℕ)) → k ≤ c → c ≤ k → Grows t n w (λ g. VariableLived L g k) A B → Grows t n w (λ g. VariableLived L g c) A B
  variable_end k c A B e f h = record {
    regular = h.regular;
    added = λ g lives is. added_so w A B (VariableLived L g k) (VariableLived L g c) (h.added g lives is)
        (λ m i x. let y = x.below in record { number = x.number; below = omega (arith, y, f); lived = x.lived })
        (λ m i x. let y = x.below in record { number = x.number; below = omega (arith, y, e); lived = x.lived });
  }

  some_same : (s p : Temporary) → Some s ≡ Some p → s ≡ p
  some_same s p e = ap (λ o. told o) e where
    told : Option Temporary → Temporary
    told (Some x) = x
    told None = s

  pub temporary_more : (ts : List Temporary) (s : Temporary) (k : ℕ) (A B C : List (List ℕ)) → slice_get ts k ≡ Some s → Regular (length A) w A
      → Grows t n w (λ g. TemporaryLived L g ts k) A B → Grows t n w (λ g. Lived L g (temporary s)) B C → Grows t n w (λ g. TemporaryLived L g ts (k + 1)) A C
  temporary_more ts s k A B C at h one more = grows_then t n w A B C (λ g. TemporaryLived L g ts k) (λ g. Lived L g (temporary s)) (λ g. TemporaryLived L g ts (k + 1)) h one more
      (λ g m i x. apart g m i x (cases_eq x.place k))
      (λ g m i x. let y = x.below in record { place = x.place; below = omega (arith, y); which = x.which; stands = x.stands; lived = x.lived })
      (λ g m i x. record { place = k; below = omega arith; which = s; stands = at; lived = x })
    where
      apart : (g : List Site) (m i : ℕ) (x : TemporaryLived L g ts (k + 1) m i) → (x.place ≡ k) ⊎ (x.place ≡ k → ⊥) → TemporaryLived L g ts k m i ⊎ Lived L g (temporary s) m i
      apart g m i x (inl e) = inr (subst (λ y. Lived L g (temporary y) m i)
          (sym (some_same s x.which (sym at ∙ sym (ap (λ j. slice_get ts j) e) ∙ x.stands))) x.lived)
      apart g m i x (inr d) = let y = x.below in inl (record { place = x.place; below = omega (arith, y, d); which = x.which; stands = x.stands; lived = x.lived })

  pub temporary_end : (ts : List Temporary) (k c : ℕ) (A B : List (List ℕ)) → k ≤ c → c ≤ k → Grows t n w (λ g. TemporaryLived L g ts k) A B
      → Grows t n w (λ g. TemporaryLived L g ts c) A B
  temporary_end ts k c A B e f h = record {
    regular = h.regular;
    added = λ g lives is. added_so w A B (TemporaryLived L g ts k) (TemporaryLived L g ts c) (h.added g lives is)
        (λ m i x. let y = x.below in record { place = x.place; below = omega (arith, y, f); which = x.which; stands = x.stands; lived = x.lived })
        (λ m i x. let y = x.below in record { place = x.place; below = omega (arith, y, e); which = x.which; stands = x.stands; lived = x.lived });
  }
