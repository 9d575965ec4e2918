-- Rows that are closed under pairs, each of which had its own number before, have exactly what follows along the pairs.
use Rattle.std.proofs.Common.{◌≡◌, ◌⊎◌, inl, inr, ℕ, zero, suc, ◌+◌, ◌*◌, ◌/◌, ◌%◌, ◌<◌, ◌≤◌, true, ◌==◌, List, [], ◌∷◌, length, get_or, slice_get, Option, Some, None, refl, sym, ap, ◌∙◌, subst, arith, true≢false}
use Rattle.std.proofs.lemmas.Bool.{cases_eq, cases_lt}
use Rattle.std.proofs.lemmas.Nat.Bits.{bit_at-zero}
use Rattle.std.proofs.lemmas.Option.{none-some}
use Rattle.std.specs.Int.{bit_at}
use Rattle.rx_core.specs.declared.types.Bound.{Bound}
use Rattle.rx_graph_bits.specs.Rows.{words, holds}
use Rattle.rx_graph.specs.Tables.{at, Regular, Empty}
use Rattle.rx_graph_closure.specs.Closing.{Has, Comes, Within, Closed}
use Rattle.rx_graph_closure.specs.Closing as closing
use Rattle.rx_graph_closure.specs.Filling.{Added}
use Rattle.rx_graph_closure.proofs.Tables.{added_then, added_so}
use Rattle.rx_region_outlives.specs.Related.{outlives}
use Rattle.rx_region_outlives.specs.Implied.{HasPair}
use Rattle.rx_region.specs.Tables.{Follows, ClosedFrom}
use Rattle.rx_region.specs.Tables as tables

-- ---- the own number of each member, one more

abbrev pub Own : ℕ → ℕ → ℕ → Type 0
Own k m i = (m < k) × (i ≡ m)

pub own_more : (w k : ℕ) (A B C : List (List ℕ)) → Added w A B (Own k) → (Regular (length B) w B → Added w B C (λ m i. (m ≡ k) × (i ≡ k))) → Added w A C (Own (k + 1))
own_more w k A B C one more = added_then w A B C (Own k) (λ m i. (m ≡ k) × (i ≡ k)) (Own (k + 1)) one
    (more (subst (λ n. Regular n w B) (sym one.regular.count) one.regular))
    (λ m i r. apart m i r (cases_eq m k)) (λ m i p. (omega (arith, p.0), p.1)) (λ m i q. (omega (arith, q.0), q.1 ∙ sym q.0))
  where
    apart : (m i : ℕ) → Own (k + 1) m i → (m ≡ k) ⊎ (m ≡ k → ⊥) → Own k m i ⊎ ((m ≡ k) × (i ≡ k))
    apart m i r (inl e) = inr (e, r.1 ∙ e)
    apart m i r (inr d) = inl (let l = r.0 in omega (arith, l, d), r.1)

pub own_end : (w k n : ℕ) (A B : List (List ℕ)) → k ≤ n → n ≤ k → Added w A B (Own k) → Added w A B (Own n)
own_end w k n A B e f h = added_so w A B (Own k) (Own n) h (λ m i r. (omega (arith, r.0, f), r.1)) (λ m i p. (omega (arith, p.0, e), p.1))

-- ---- what stands in a table is inside it

there : (T : List (List ℕ)) (l i : ℕ) → at T l i ≡ true → l < length T
there [] l i h = absurd (true≢false (sym h ∙ ap (λ b. b == 1) (bit_at-zero (i % 64))))
there (r ∷ T) zero i h = omega arith
there (r ∷ T) (suc l) i h = let rest = there T l i h in omega (arith, rest)

past : (ws : List ℕ) (k : ℕ) → length ws ≤ k → get_or ws k 0 ≡ 0
past [] k h = refl
past (w ∷ ws) zero h = absurd (omega (arith, h))
past (w ∷ ws) (suc k) h = past ws k (omega (arith, h))

holds_within : (ws : List ℕ) (i : ℕ) → holds ws i ≡ true → i < 64 * length ws
holds_within ws i h = go (cases_lt i (64 * length ws)) where
  go : (i < 64 * length ws) ⊎ (64 * length ws ≤ i) → i < 64 * length ws
  go (inl x) = x
  go (inr x) = absurd (true≢false (sym h ∙ ap (λ w. bit_at w (i % 64) == 1) (past ws (i / 64) (omega (arith, x))) ∙ ap (λ b. b == 1) (bit_at-zero (i % 64))))

within_words : (n w : ℕ) (T : List (List ℕ)) (l i : ℕ) → Regular n w T → at T l i ≡ true → i < 64 * w
within_words n w T l i h e = let t = there T l i e in subst (λ v. i < 64 * v) (h.width l (omega (arith, t, h.count))) (holds_within (get_or T l []) i e)

-- ---- pairs by their places

some_same : (p b : Bound) → Some p ≡ Some b → p ≡ b
some_same p b e = ap (λ o. told o) e where
  told : Option Bound → Bound
  told (Some x) = x
  told None = p

pub has_pair : (ps : List Bound) (j : ℕ) (b : Bound) → slice_get ps j ≡ Some b → HasPair ps b.long b.short
has_pair [] j b h = absurd (none-some b h)
has_pair (p ∷ ps) zero b h = inl (some_same p b h)
has_pair (p ∷ ps) (suc j) b h = inr (has_pair ps j b h)

pub pair_has : (ps : List Bound) (l k : ℕ) → HasPair ps l k → Has ps (outlives l k)
pair_has [] l k h = absurd h
pair_has (p ∷ ps) l k (inl e) = (0, ap (λ b. Some b) e)
pair_has (p ∷ ps) l k (inr h) = let r = pair_has ps l k h in (suc r.0, r.1)

-- ---- what follows is what comes from each member itself

module _ (pairs : List Bound) (n : ℕ) (S T U : List (List ℕ)) (empty : Empty n (words n) S)
    (own : Added (words n) S T (Own n)) (closed : Closed pairs (words n) T U) where
  itself_only : (l k : ℕ) → at T l k ≡ true → k ≡ l
  itself_only l k e =
      let inside = there T l k e in
      let low = within_words (length S) (words n) T l k own.regular e in
      only ((own.exact l k (omega (arith, inside, own.regular.count)) low).0 e)
    where
      only : (at S l k ≡ true) ⊎ Own n l k → k ≡ l
      only (inl x) = absurd (let inside = there S l k x in true≢false (sym x ∙ empty.nothing l k (omega (arith, inside, empty.regular.count))))
      only (inr x) = x.1

  has_itself : (l : ℕ) → l < n → at T l l ≡ true
  has_itself l h = (own.exact l l (omega (arith, h, empty.regular.count)) (omega (arith, h))).1 (inr (h, refl))

  follows : (k l : ℕ) → Comes pairs T k l → Follows pairs l k
  follows k l (closing.here e) = subst (λ m. Follows pairs l m) (sym (itself_only l k e)) tables.itself
  follows k l (closing.longer b has x) = tables.by b.short (has_pair pairs has.0 b has.1) (follows k b.short x)

  comes : (l k : ℕ) → Within pairs n → l < n → Follows pairs l k → Comes pairs T k l
  comes l k within h tables.itself = closing.here (has_itself l h)
  comes l k within h (tables.by m pair x) = let p = pair_has pairs l m pair in closing.longer (outlives l m) p (comes m k within (within (outlives l m) p).1 x)

  size : length T ≡ n
  size = own.regular.count ∙ empty.regular.count

  pub closed_from : ClosedFrom pairs n U
  closed_from = record {
    exact = λ within l k i j.
        let exact = closed.exact (subst (λ m. Within pairs m) (sym size) within) l k (omega (arith, i, size)) in
        (λ e. follows k l (exact.0 e), λ f. exact.1 (comes l k within i f));
  }

pub regular_empty : (n : ℕ) (S : List (List ℕ)) → Empty n (words n) S → Regular (length S) (words n) S
regular_empty n S h = subst (λ m. Regular m (words n) S) (sym h.regular.count) h.regular

pub own_regular : (n : ℕ) (S T : List (List ℕ)) → Empty n (words n) S → Added (words n) S T (Own n) → Regular (length T) (words n) T
own_regular n S T empty h = subst (λ m. Regular m (words n) T) (sym h.regular.count) h.regular
