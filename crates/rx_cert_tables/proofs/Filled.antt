-- Rows that are filled: ranges of numbers, items, and all items of a line.
use Rattle.std.proofs.Common.{◌≡◌, ◌⊎◌, inl, inr, ℕ, zero, suc, ◌+◌, ◌*◌, ◌%◌, ◌<◌, ◌≤◌, min, Bool, true, false, ◌&&◌, ◌||◌, ◌==◌, List, [], ◌∷◌, ◌++◌, length, drop, take, get_or, refl, sym, ap, subst, ◌∙◌, arith}
use Rattle.std.proofs.lemmas.Bool.{cases_eq, cases_lt, eq-eqb}
use Rattle.std.proofs.lemmas.List.{drop_more, take_more, take_all}
use Rattle.std.proofs.lemmas.Nat.Bits.{bit_at-zero}
use Rattle.std.specs.Prelude.{nat_lt, nat_le}
use Rattle.rx_graph_bits.specs.Rows.{holds, words, Inserted}
use Rattle.rx_cert_lines.specs.declared.item.Item.{Item}
use Rattle.rx_cert_lines.specs.declared.item.Item.TheVariants.{Number, Range, End}
use Rattle.rx_cert_lines.specs.declared.line.Line.{Line}
use Rattle.rx_cert_tables.specs.Sets.{is_site, is_end, has_site, has_end, IsRowOf, items_at, AreRows}
use Rattle.rx_cert_tables.specs.Filling.{Ranged, Added, AreRowsOf}
use Rattle.rx_cert_tables.proofs.Tests.{or_none, or_swap, and_none, and_whole, differs, le, lt, not_le, not_lt}

two : {A B C : Type 0} (f : A → B → C) {a c : A} {b d : B} → a ≡ c → b ≡ d → f a b ≡ f c d
two f {a} {c} {b} {d} p q = ap (λ x. f x b) p ∙ ap (λ y. f c y) q

-- ---- a range of numbers

abbrev inside : ℕ → ℕ → ℕ → Bool
inside f e i = nat_le f i && nat_lt i e

inside_yes : (f e i : ℕ) → f ≤ i → i < e → inside f e i ≡ true
inside_yes f e i h k = and_whole (nat_le f i) (nat_lt i e) (le f i h) (lt i e k)

inside_no : (f e i : ℕ) → (f ≤ i → i < e → ⊥) → inside f e i ≡ false
inside_no f e i o = go (cases_lt i f) (cases_lt i e) where
  go : (i < f) ⊎ (f ≤ i) → (i < e) ⊎ (e ≤ i) → (nat_le f i && nat_lt i e) ≡ false
  go (inl h) k = ap (λ x. x && nat_lt i e) (not_le f i h)
  go (inr h) (inl k) = absurd (o h k)
  go (inr h) (inr k) = ap (λ x. nat_le f i && x) (not_lt i e k) ∙ and_none (nat_le f i)

pub ranged_none : (row : List ℕ) (first : ℕ) → Ranged row row first first
ranged_none row first = record { width = refl; holds_too = λ i h. ap (λ b. b || holds row i) (sym (inside_no first first i (λ k l. omega (arith, k, l)))) }

pub ranged_more : (old row new : List ℕ) (first n m : ℕ) → first ≤ n → m ≡ n + 1 → Ranged old row first n → Inserted row new n → Ranged old new first m
ranged_more old row new first n m le' e r s = record { width = s.width ∙ r.width; holds_too = λ i h. each i h (cases_eq i n) } where
  within : (i : ℕ) → i < 64 * length old → i < 64 * length row
  within i h = let w = r.width in omega (arith, h, w)

  each : (i : ℕ) → i < 64 * length old → (i ≡ n) ⊎ (i ≡ n → ⊥) → holds new i ≡ ((nat_le first i && nat_lt i m) || holds old i)
  each i h (inl q) = s.holds i (within i h) ∙ ap (λ b. b || holds row i) (eq-eqb i n q)
      ∙ ap (λ b. b || holds old i) (sym (inside_yes first m i (omega (arith, le', q)) (omega (arith, e, q))))
  each i h (inr q) = s.holds i (within i h) ∙ ap (λ b. b || holds row i) (differs i n q) ∙ r.holds_too i h
      ∙ ap (λ b. b || holds old i) (same (cases_lt i n)) where
        same : (i < n) ⊎ (n ≤ i) → (nat_le first i && nat_lt i n) ≡ (nat_le first i && nat_lt i m)
        same (inl k) = ap (λ b. nat_le first i && b) (lt i n k ∙ sym (lt i m (omega (arith, k, e))))
        same (inr k) = ap (λ b. nat_le first i && b) (not_lt i n k ∙ sym (not_lt i m (omega (arith, k, e, q))))

pub ranged_all : (old new : List ℕ) (first n end : ℕ) → n ≡ end → Ranged old new first n → Ranged old new first end
ranged_all old new first n end e r = subst (λ m. Ranged old new first m) e r

-- ---- an item

pub number_added : (sites own n : ℕ) (row : List ℕ) → Added sites own (Number n) row row
number_added sites own n row = record { width = refl; site = λ p h. refl; end = λ k h. refl }

module _ (sites own a b : ℕ) (row : List ℕ) (room : sites + own < 64 * length row) where
  -- of the sites, the same ones are in the range and before its end
  cut : (p : ℕ) → p < sites → (nat_le a p && nat_lt p (min (b + 1) sites)) ≡ (nat_le a p && nat_le p b)
  cut p h = ap (λ x. nat_le a p && x) (same (cases_lt b p)) where
    same : (b < p) ⊎ (p ≤ b) → nat_lt p (min (b + 1) sites) ≡ nat_le p b
    same (inl k) = not_lt p (min (b + 1) sites) (omega (arith, k)) ∙ sym (not_le p b k)
    same (inr k) = lt p (min (b + 1) sites) (omega (arith, k, h)) ∙ sym (le p b k)

  pub range_added : (new : List ℕ) → Ranged row new a (min (b + 1) sites) → Added sites own (Range a b) row new
  range_added new r = record {
    width = r.width;
    site = λ p h. r.holds_too p (omega (arith, h, room)) ∙ ap (λ x. x || holds row p) (cut p h);
    end = λ k h. r.holds_too (sites + k) (omega (arith, h, room)) ∙ ap (λ x. x || holds row (sites + k)) (inside_no a (min (b + 1) sites) (sites + k) (λ i j. omega (arith, i, j)));
  }

  pub empty_range_added : min (b + 1) sites ≤ a → Added sites own (Range a b) row row
  empty_range_added e = record {
    width = refl;
    site = λ p h. ap (λ x. x || holds row p) (sym (inside_no a (min (b + 1) sites) p (λ i j. omega (arith, i, j, e))) ∙ cut p h);
    end = λ k h. refl;
  }

pub end_added : (sites own e : ℕ) (row new : List ℕ) → sites + own < 64 * length row → e < own → Inserted row new (sites + e) → Added sites own (End e) row new
end_added sites own e row new room within s = record {
  width = s.width;
  site = λ p h. s.holds p (omega (arith, h, room)) ∙ ap (λ b. b || holds row p) (differs p (sites + e) (λ q. omega (arith, q, h)));
  end = λ k h. s.holds (sites + k) (omega (arith, h, room)) ∙ ap (λ b. b || holds row (sites + k)) (shifted k (cases_eq k e));
} where
  shifted : (k : ℕ) → (k ≡ e) ⊎ (k ≡ e → ⊥) → (sites + k == sites + e) ≡ (k == e)
  shifted k (inl q) = eq-eqb (sites + k) (sites + e) (ap (λ x. sites + x) q) ∙ sym (eq-eqb k e q)
  shifted k (inr q) = differs (sites + k) (sites + e) (λ x. q (omega (arith, x))) ∙ sym (differs k e q)

pub past_end_added : (sites own e : ℕ) (row : List ℕ) → own ≤ e → Added sites own (End e) row row
past_end_added sites own e row past = record {
  width = refl;
  site = λ p h. refl;
  end = λ k h. ap (λ b. b || holds row (sites + k)) (sym (differs k e (λ q. omega (arith, q, h, past))));
}

-- ---- the items of a line

pub record Filling (sites own : ℕ) (is left : List Item) (row : List ℕ) : Type 0 where
  pub width : length row ≡ words (sites + own)
  pub site : (p : ℕ) → p < sites → (holds row p || has_site left p) ≡ has_site is p
  pub end : (k : ℕ) → k < own → (holds row (sites + k) || has_end left k) ≡ has_end is k

pub filling_none : (sites own : ℕ) (is : List Item) (row : List ℕ) → length row ≡ words (sites + own) → ((i : ℕ) → holds row i ≡ false) → Filling sites own is is row
filling_none sites own is row w e = record {
  width = w;
  site = λ p h. ap (λ b. b || has_site is p) (e p);
  end = λ k h. ap (λ b. b || has_end is k) (e (sites + k));
}

pub filling_room : (sites own : ℕ) (is left : List Item) (row : List ℕ) → Filling sites own is left row → sites + own < 64 * length row
filling_room sites own is left row f = let w = f.width in omega (arith, w)

pub filling_more : (sites own : ℕ) (is left rest : List Item) (i : Item) (row new : List ℕ) → left ≡ i ∷ rest → Added sites own i row new
    → Filling sites own is left row → Filling sites own is rest new
filling_more sites own is left rest i row new e a f = record {
  width = a.width ∙ f.width;
  site = λ p h. ap (λ b. b || has_site rest p) (a.site p h) ∙ or_swap (is_site i p) (holds row p) (has_site rest p)
      ∙ ap (λ l. holds row p || has_site l p) (sym e) ∙ f.site p h;
  end = λ k h. ap (λ b. b || has_end rest k) (a.end k h) ∙ or_swap (is_end i k) (holds row (sites + k)) (has_end rest k)
      ∙ ap (λ l. holds row (sites + k) || has_end l k) (sym e) ∙ f.end k h;
}

pub filling_all : (sites own : ℕ) (is left : List Item) (row : List ℕ) → left ≡ [] → Filling sites own is left row → IsRowOf sites own is row
filling_all sites own is left row e f = record {
  width = f.width;
  site = λ p h. sym (or_none (holds row p)) ∙ ap (λ l. holds row p || has_site l p) (sym e) ∙ f.site p h;
  end = λ k h. sym (or_none (holds row (sites + k))) ∙ ap (λ l. holds row (sites + k) || has_end l k) (sym e) ∙ f.end k h;
}

-- ---- one row a line

-- no number is held where there is no word
holds_none : (p : ℕ) → holds [] p ≡ false
holds_none p = ap (λ b. b == 1) (bit_at-zero (p % 64))

pub rows_more : (sites own : ℕ) (ls : List Line) (rows : List (List ℕ)) (l : Line) (row : List ℕ) → AreRowsOf sites own ls rows → IsRowOf sites own l.items row
    → AreRowsOf sites own (ls ++ l ∷ []) (rows ++ row ∷ [])
rows_more sites own [] [] l row a r = (r, tt)
rows_more sites own [] (s ∷ ss) l row a r = absurd a
rows_more sites own (m ∷ ms) [] l row a r = absurd a
rows_more sites own (m ∷ ms) (s ∷ ss) l row a r = (a.0, rows_more sites own ms ss l row a.1 r)

rows_wide : (sites own : ℕ) (ls : List Line) (rows : List (List ℕ)) → AreRowsOf sites own ls rows → (n : ℕ) → n < length rows → length (get_or rows n []) ≡ words (sites + own)
rows_wide sites own ls [] a n h = absurd (omega (arith, h))
rows_wide sites own [] (r ∷ rs) a n h = absurd a
rows_wide sites own (l ∷ ls) (r ∷ rs) a zero h = a.0.width
rows_wide sites own (l ∷ ls) (r ∷ rs) a (suc n) h = rows_wide sites own ls rs a.1 n (omega (arith, h))

rows_count : (sites own : ℕ) (ls : List Line) (rows : List (List ℕ)) → AreRowsOf sites own ls rows → length rows ≡ length ls
rows_count sites own [] [] a = refl
rows_count sites own [] (r ∷ rs) a = absurd a
rows_count sites own (l ∷ ls) [] a = absurd a
rows_count sites own (l ∷ ls) (r ∷ rs) a = ap suc (rows_count sites own ls rs a.1)

rows_sites : (sites own : ℕ) (ls : List Line) (rows : List (List ℕ)) → AreRowsOf sites own ls rows → (n p : ℕ) → p < sites
    → holds (get_or rows n []) p ≡ has_site (items_at ls n) p
rows_sites sites own [] [] a n p h = holds_none p
rows_sites sites own [] (r ∷ rs) a n p h = absurd a
rows_sites sites own (l ∷ ls) [] a n p h = absurd a
rows_sites sites own (l ∷ ls) (r ∷ rs) a zero p h = a.0.site p h
rows_sites sites own (l ∷ ls) (r ∷ rs) a (suc n) p h = rows_sites sites own ls rs a.1 n p h

rows_ends : (sites own : ℕ) (ls : List Line) (rows : List (List ℕ)) → AreRowsOf sites own ls rows → (n k : ℕ) → k < own
    → holds (get_or rows n []) (sites + k) ≡ has_end (items_at ls n) k
rows_ends sites own [] [] a n k h = holds_none (sites + k)
rows_ends sites own [] (r ∷ rs) a n k h = absurd a
rows_ends sites own (l ∷ ls) [] a n k h = absurd a
rows_ends sites own (l ∷ ls) (r ∷ rs) a zero k h = a.0.end k h
rows_ends sites own (l ∷ ls) (r ∷ rs) a (suc n) k h = rows_ends sites own ls rs a.1 n k h

pub all_rows : (sites own : ℕ) (ls : List Line) (rows : List (List ℕ)) → AreRowsOf sites own ls rows → AreRows sites own ls rows
all_rows sites own ls rows a = record {
  count = rows_count sites own ls rows a;
  wide = rows_wide sites own ls rows a;
  sites_are = rows_sites sites own ls rows a;
  ends_are = rows_ends sites own ls rows a;
}

pub rows_next : (sites own : ℕ) (ls : List Line) (rows new : List (List ℕ)) (l : Line) (items : List Item) (row : List ℕ) (k : ℕ) → k < length ls → l ≡ get_or ls k l
    → items ≡ l.items → IsRowOf sites own items row → new ≡ rows ++ row ∷ [] → AreRowsOf sites own (take k ls) rows → AreRowsOf sites own (take (k + 1) ls) new
rows_next sites own ls rows new l items row k h e i r n a =
    subst (λ (ms : List Line). AreRowsOf sites own ms new) (ap (λ m. take k ls ++ m ∷ []) e ∙ sym (take_more ls k l h))
    (subst (λ (ss : List (List ℕ)). AreRowsOf sites own (take k ls ++ l ∷ []) ss) (sym n)
    (rows_more sites own (take k ls) rows l row a (subst (λ (is : List Item). IsRowOf sites own is row) i r)))

pub rows_taken : (sites own : ℕ) (ls : List Line) (rows new : List (List ℕ)) (k : ℕ) → length ls ≤ k → new ≡ rows → AreRowsOf sites own (take k ls) rows → AreRows sites own ls new
rows_taken sites own ls rows new k h e a =
    subst (λ (ss : List (List ℕ)). AreRows sites own ls ss) (sym e)
    (all_rows sites own ls rows (subst (λ (ms : List Line). AreRowsOf sites own ms rows) (take_all k ls h) a))

-- the next item of those that are left
pub next_item : (is : List Item) (k : ℕ) (i d : Item) → k < length is → i ≡ get_or is k d → drop k is ≡ i ∷ drop (k + 1) is
next_item is k i d h e = drop_more is k d h ∙ ap (λ x. x ∷ drop (k + 1) is) (sym e)
