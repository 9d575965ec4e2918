-- Tables that are filled one after the other, and pairs that are listed.
use Rattle.std.proofs.Common.{◌≡◌, ◌⊎◌, inl, inr, ℕ, zero, suc, ◌+◌, ◌-◌, ◌<◌, ◌≤◌, Bool, true, false, List, [], ◌∷◌, ◌++◌, length, get_or, ap, sym, ◌∙◌, subst, arith}
use Rattle.std.proofs.lemmas.Bool.{cases_eq}
use Rattle.std.proofs.lemmas.List.{append_assoc, length-append}
use Rattle.rx_core.specs.declared.types.Bound.{Bound}
use Rattle.rx_graph_bits.specs.Rows.{holds, Bounded}
use Rattle.rx_graph.specs.Tables.{at, Regular, Empty}
use Rattle.rx_graph.proofs.Spreading.{regular_after}
use Rattle.rx_graph_closure.specs.Filling.{Added}
use Rattle.rx_graph_closure.specs.Listing.{pair_if, pairs_of, pairs_from}

pub added_then : (w : ℕ) (A B C : List (List ℕ)) (P Q R : ℕ → ℕ → Type 0) → Added w A B P → Added w B C Q
    → ((m i : ℕ) → R m i → P m i ⊎ Q m i) → ((m i : ℕ) → P m i → R m i) → ((m i : ℕ) → Q m i → R m i) → Added w A C R
added_then w A B C P Q R one more apart first second = record {
  regular = regular_after w A B C one.regular more.regular;
  exact = λ m i k j. let f = one.exact m i k j in let g = more.exact m i (omega (arith, k, one.regular.count)) j in
      (λ e. came m i (g.0 e) f.0, λ e. goes m i e f.1 g.1);
} where
  came_first : (m i : ℕ) → (at A m i ≡ true) ⊎ P m i → (at A m i ≡ true) ⊎ R m i
  came_first m i (inl e) = inl e
  came_first m i (inr p) = inr (first m i p)

  came : (m i : ℕ) → (at B m i ≡ true) ⊎ Q m i → (at B m i ≡ true → (at A m i ≡ true) ⊎ P m i) → (at A m i ≡ true) ⊎ R m i
  came m i (inl e) f = came_first m i (f e)
  came m i (inr q) f = inr (second m i q)

  goes_apart : (m i : ℕ) → P m i ⊎ Q m i → ((at A m i ≡ true) ⊎ P m i → at B m i ≡ true) → ((at B m i ≡ true) ⊎ Q m i → at C m i ≡ true) → at C m i ≡ true
  goes_apart m i (inl p) f g = g (inl (f (inr p)))
  goes_apart m i (inr q) f g = g (inr q)

  goes : (m i : ℕ) → (at A m i ≡ true) ⊎ R m i → ((at A m i ≡ true) ⊎ P m i → at B m i ≡ true) → ((at B m i ≡ true) ⊎ Q m i → at C m i ≡ true) → at C m i ≡ true
  goes m i (inl e) f g = g (inl (f (inl e)))
  goes m i (inr r) f g = goes_apart m i (apart m i r) f g

pub added_so : (w : ℕ) (A B : List (List ℕ)) (P R : ℕ → ℕ → Type 0) → Added w A B P → ((m i : ℕ) → R m i → P m i) → ((m i : ℕ) → P m i → R m i) → Added w A B R
added_so w A B P R one f g = record { regular = one.regular; exact = λ m i k j. let e = one.exact m i k j in (λ x. there m i (e.0 x), λ x. e.1 (back m i x)) } where
  there : (m i : ℕ) → (at A m i ≡ true) ⊎ P m i → (at A m i ≡ true) ⊎ R m i
  there m i (inl e) = inl e
  there m i (inr p) = inr (g m i p)

  back : (m i : ℕ) → (at A m i ≡ true) ⊎ R m i → (at A m i ≡ true) ⊎ P m i
  back m i (inl e) = inl e
  back m i (inr r) = inr (f m i r)

-- ---- one more empty row

each_row : (P : List ℕ → Type 0) (T : List (List ℕ)) (r : List ℕ) → ((p : ℕ) → p < length T → P (get_or T p [])) → P r
    → (p : ℕ) → p < length T + 1 → P (get_or (T ++ r ∷ []) p [])
each_row P [] r each last zero k = last
each_row P [] r each last (suc p) k = absurd (omega (arith, k))
each_row P (t ∷ T) r each last zero k = each zero (omega arith)
each_row P (t ∷ T) r each last (suc p) k = each_row P T r (λ q h. each (suc q) (omega (arith, h))) last p (omega (arith, k))

pub empty_more : (n w : ℕ) (T : List (List ℕ)) (r : List ℕ) → Empty n w T → length r ≡ w → Bounded r → ((i : ℕ) → holds r i ≡ false) → Empty (n + 1) w (T ++ r ∷ [])
empty_more n w T r before width bounded none = record {
  regular = record {
    count = let e = length-append T (r ∷ []) in omega (arith, e, before.regular.count);
    width = λ p k. each_row (λ s. length s ≡ w) T r (λ q h. before.regular.width q (below q h)) width p (within p k);
    bounded = λ p k. each_row Bounded T r (λ q h. before.regular.bounded q (below q h)) bounded p (within p k);
  };
  nothing = λ p i k. each_row (λ s. holds s i ≡ false) T r (λ q h. before.nothing q i (below q h)) (none i) p (within p k);
} where
  below : (q : ℕ) → q < length T → q < n
  below q h = omega (arith, h, before.regular.count)

  within : (q : ℕ) → q < n + 1 → q < length T + 1
  within q h = omega (arith, h, before.regular.count)

-- ---- a diagonal

abbrev pub Diagonal : ℕ → ℕ → ℕ → ℕ → Type 0
Diagonal base k m i = (m < k) × (i ≡ base + m)

pub diagonal_more : (w base k : ℕ) (A B C : List (List ℕ)) → Added w A B (Diagonal base k)
    → (Regular (length B) w B → Added w B C (λ m i. (m ≡ k) × (i ≡ base + k))) → Added w A C (Diagonal base (k + 1))
diagonal_more w base k A B C one more = added_then w A B C (Diagonal base k) (λ m i. (m ≡ k) × (i ≡ base + k)) (Diagonal base (k + 1)) one
    (more (subst (λ n. Regular n w B) (sym one.regular.count) one.regular))
    (λ m i r. apart m i r (cases_eq m k)) (λ m i p. (omega (arith, p.0), p.1)) (λ m i q. (omega (arith, q.0), q.1 ∙ ap (λ x. base + x) (sym q.0)))
  where
    apart : (m i : ℕ) → Diagonal base (k + 1) m i → (m ≡ k) ⊎ (m ≡ k → ⊥) → Diagonal base k m i ⊎ ((m ≡ k) × (i ≡ base + k))
    apart m i r (inl e) = inr (e, r.1 ∙ ap (λ x. base + x) e)
    apart m i r (inr d) = inl (let l = r.0 in omega (arith, l, d), r.1)

pub diagonal_end : (w base k n : ℕ) (A B : List (List ℕ)) → k ≤ n → n ≤ k → Added w A B (Diagonal base k) → Added w A B (Diagonal base n)
diagonal_end w base k n A B e f h = added_so w A B (Diagonal base k) (Diagonal base n) h (λ m i r. (omega (arith, r.0, f), r.1)) (λ m i p. (omega (arith, p.0, e), p.1))

-- ---- pairs that are listed

one_less : (s n : ℕ) → s < n → n - s ≡ suc (n - (s + 1))
one_less s n h = omega (arith, h)

next_to : (s : ℕ) → suc s ≡ s + 1
next_to s = omega arith

pub of_more : (f : ℕ → ℕ → Bool) (l s n : ℕ) (b : Bool) (old new X : List Bound) → s < n → b ≡ f l s → new ≡ old ++ pair_if b l s
    → old ++ pairs_of f l s (n - s) ≡ X → new ++ pairs_of f l (s + 1) (n - (s + 1)) ≡ X
of_more f l s n b old new X less is grows before =
    ap (λ qs. qs ++ rest) (grows ∙ ap (λ c. old ++ pair_if c l s) is) ∙ append_assoc old (pair_if (f l s) l s) rest
    ∙ ap (λ k. old ++ (pair_if (f l s) l s ++ pairs_of f l k (n - (s + 1)))) (sym (next_to s))
    ∙ ap (λ m. old ++ pairs_of f l s m) (sym (one_less s n less)) ∙ before
  where
    rest : List Bound
    rest = pairs_of f l (s + 1) (n - (s + 1))

pub from_more : (f : ℕ → ℕ → Bool) (l n : ℕ) (old new X : List Bound) → l < n → new ≡ old ++ pairs_of f l 0 n
    → old ++ pairs_from f n l (n - l) ≡ X → new ++ pairs_from f n (l + 1) (n - (l + 1)) ≡ X
from_more f l n old new X less grows before =
    ap (λ qs. qs ++ rest) grows ∙ append_assoc old (pairs_of f l 0 n) rest
    ∙ ap (λ k. old ++ (pairs_of f l 0 n ++ pairs_from f n k (n - (l + 1)))) (sym (next_to l))
    ∙ ap (λ m. old ++ pairs_from f n l m) (sym (one_less l n less)) ∙ before
  where
    rest : List Bound
    rest = pairs_from f n (l + 1) (n - (l + 1))
