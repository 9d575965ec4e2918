-- What is known, and what is missing.
use Rattle.std.proofs.Common.{◌≡◌, ◌↔◌, ◌⊎◌, inl, inr, ℕ, ◌+◌, ◌%◌, ◌<◌, ◌≤◌, Bool, true, false, not, ◌&&◌, ◌==◌, List, [], ◌∷◌, length, refl, sym, ap, ◌∙◌, subst, arith, true≢false}
use Rattle.std.proofs.lemmas.Nat.Bits.{bit_at-zero}
use Rattle.rx_core.specs.declared.types.Bound.{Bound}
use Rattle.rx_graph_bits.specs.Rows.{words}
use Rattle.rx_graph.specs.Tables.{at, Regular, Empty}
use Rattle.rx_graph.proofs.Spreading.{both_of}
use Rattle.rx_graph_closure.specs.Closing.{Has, Comes, Within, Closed}
use Rattle.rx_graph_closure.specs.Closing as closing
use Rattle.rx_graph_closure.specs.Filling.{Added}
use Rattle.rx_graph_closure.specs.Listing.{pairs_below}
use Rattle.rx_graph_closure.proofs.Listed.{listed, lists}
use Rattle.rx_graph_closure.proofs.Listed as listing
use Rattle.rx_lower_walks.specs.Graph.{Site}
use Rattle.rx_region_outlives.specs.Related.{outlives}
use Rattle.rx_region_outlives.specs.Implied.{HasPair}
use Rattle.rx_region.specs.Constraints.{Context}
use Rattle.rx_region.specs.Known.{told}
use Rattle.rx_region.specs.Known as known
use Rattle.rx_region.specs.Solutions.{Sets, AreLeast, end}
use Rattle.rx_region.specs.Tables.{Follows, ClosedFrom, Misses, Keeps}
use Rattle.rx_region.specs.Tables as tables
use Rattle.rx_region.proofs.Points.{there, within_words}
use Rattle.rx_region.proofs.Solving.{has_pair, pair_has}

-- ---- pairs in lists, as two crates have it

to_pair : (ps : List Bound) (l k : ℕ) → listing.HasPair ps l k → HasPair ps l k
to_pair [] l k h = absurd h
to_pair (p ∷ ps) l k (inl e) = inl e
to_pair (p ∷ ps) l k (inr h) = inr (to_pair ps l k h)

from_pair : (ps : List Bound) (l k : ℕ) → HasPair ps l k → listing.HasPair ps l k
from_pair [] l k h = absurd h
from_pair (p ∷ ps) l k (inl e) = inl e
from_pair (p ∷ ps) l k (inr h) = inr (from_pair ps l k h)

-- ---- what follows is what comes from each member itself

module _ (pairs : List Bound) (n : ℕ) (S T U : List (List ℕ)) (empty : Empty n (words n) S)
    (diagonal : Added (words n) S T (λ m i. (m < n) × (i ≡ 0 + m))) (closed : Closed pairs (words n) T U) where
  itself_only : (l k : ℕ) → at T l k ≡ true → k ≡ l
  itself_only l k e =
      let inside = there T l k e in
      let low = within_words (length S) (words n) T l k diagonal.regular e in
      only ((diagonal.exact l k (omega (arith, inside, diagonal.regular.count)) low).0 e)
    where
      only : (at S l k ≡ true) ⊎ ((l < n) × (k ≡ 0 + l)) → k ≡ l
      only (inl x) = absurd (let inside = there S l k x in true≢false (sym x ∙ empty.nothing l k (omega (arith, inside, empty.regular.count))))
      only (inr x) = let y = x.1 in omega (arith, y)

  has_itself : (l : ℕ) → l < n → at T l l ≡ true
  has_itself l h = (diagonal.exact l l (omega (arith, h, empty.regular.count)) (omega (arith, h))).1 (inr (h, omega arith))

  follows : (k l : ℕ) → Comes pairs T k l → Follows pairs l k
  follows k l (closing.here e) = subst (λ m. Follows pairs l m) (sym (itself_only l k e)) tables.itself
  follows k l (closing.longer b has x) = tables.by b.short (has_pair pairs has.0 b has.1) (follows k b.short x)

  comes : (l k : ℕ) → Within pairs n → l < n → Follows pairs l k → Comes pairs T k l
  comes l k within h tables.itself = closing.here (has_itself l h)
  comes l k within h (tables.by m pair x) = let p = pair_has pairs l m pair in closing.longer (outlives l m) p (comes m k within (within (outlives l m) p).1 x)

  size : length T ≡ n
  size = diagonal.regular.count ∙ empty.regular.count

  pub closed_from : ClosedFrom pairs n U
  closed_from = record {
    exact = λ within l k i j.
        let exact = closed.exact (subst (λ m. Within pairs m) (sym size) within) l k (omega (arith, i, size)) in
        (λ e. follows k l (exact.0 e), λ f. exact.1 (comes l k within i f));
  }

pub regular_empty : (n : ℕ) (S : List (List ℕ)) → Empty n (words n) S → Regular (length S) (words n) S
regular_empty n S h = subst (λ m. Regular m (words n) S) (sym h.regular.count) h.regular

pub diagonal_regular : (n : ℕ) (S T : List (List ℕ)) → Empty n (words n) S → Added (words n) S T (λ m i. (m < n) × (i ≡ 0 + m)) → Regular (length T) (words n) T
diagonal_regular n S T empty h = subst (λ m. Regular m (words n) T) (sym h.regular.count) h.regular

-- ---- known pairs

known_follows : (C : Context) (l k : ℕ) → known.KnownToOutlive C l k → Follows (told C) l k
known_follows C l k known.itself = tables.itself
known_follows C l k (known.by m pair x) = tables.by m pair (known_follows C m k x)

follows_known : (C : Context) (l k : ℕ) → Follows (told C) l k → known.KnownToOutlive C l k
follows_known C l k tables.itself = known.itself
follows_known C l k (tables.by m pair x) = known.by m pair (follows_known C m k x)

no_table : (l k : ℕ) → at [] l k ≡ false
no_table l k = ap (λ b. b == 1) (bit_at-zero (k % 64))

-- the test of pairs that are known
abbrev pub in_rows : List (List ℕ) → ℕ → ℕ → Bool
in_rows T l k = at T l (0 + k) && not (at [] l k)

test_of : (T : List (List ℕ)) (l k : ℕ) → in_rows T l k ≡ true → at T l k ≡ true
test_of T l k e = ap (λ m. at T l m) (omega arith) ∙ (both_of (at T l (0 + k)) (not (at [] l k)) e).0

of_test : (T : List (List ℕ)) (l k : ℕ) → at T l k ≡ true → in_rows T l k ≡ true
of_test T l k e = ap (λ m. at T l m && not (at [] l k)) (zero_more k) ∙ ap (λ b. b && not (at [] l k)) e ∙ ap (λ b. not b) (no_table l k)
  where
    zero_more : (m : ℕ) → 0 + m ≡ m
    zero_more m = omega arith

module _ (C : Context) (ps : List Bound) (n : ℕ) (T : List (List ℕ)) (is : ps ≡ told C) (within : Within ps n) (own_below : C.lifetimes.own ≤ n) (closed : ClosedFrom ps n T) where
  pub rows_known : (l k : ℕ) → l < C.lifetimes.own → k < C.lifetimes.own → (at T l k ≡ true) ↔ known.KnownToOutlive C l k
  rows_known l k i j =
      let exact = closed.exact within l k (omega (arith, i, own_below)) (omega (arith, j, own_below)) in
      (λ e. follows_known C l k (subst (λ qs. Follows qs l k) is (exact.0 e)), λ x. exact.1 (subst (λ qs. Follows qs l k) (sym is) (known_follows C l k x)))

  pub pairs_known : (qs : List Bound) → qs ≡ pairs_below (in_rows T) C.lifetimes.own → (l k : ℕ)
      → HasPair qs l k ↔ ((l < C.lifetimes.own) × (k < C.lifetimes.own) × known.KnownToOutlive C l k)
  pairs_known qs are l k = (
    λ h. let e = listed (in_rows T) C.lifetimes.own l k (from_pair _ l k (subst (λ rs. HasPair rs l k) are h)) in
        (e.1, e.2, (rows_known l k e.1 e.2).0 (test_of T l k e.0)),
    λ x. subst (λ rs. HasPair rs l k) (sym are) (to_pair _ l k (lists (in_rows T) C.lifetimes.own l k x.0 x.1 (of_test T l k ((rows_known l k x.0 x.1).1 x.2)))),
  )

-- ---- missing pairs

module _ (C : Context) (g : List Site) (R : Sets) (K : List (List ℕ)) (own : ℕ) (least : AreLeast C g R) (own_is : own ≡ C.lifetimes.own)
    (rows : (l k : ℕ) → l < C.lifetimes.own → k < C.lifetimes.own → (at K l k ≡ true) ↔ known.KnownToOutlive C l k) where
  negated : (b : Bool) → not b ≡ true → b ≡ true → ⊥
  negated true h e = true≢false (sym h)
  negated false h e = true≢false (sym e)

  unknown : (b : Bool) → (b ≡ true → ⊥) → not b ≡ true
  unknown true h = absurd (h refl)
  unknown false h = refl

  pub misses : (ps : List Bound) → ps ≡ pairs_below (λ l k. R l (end k) && not (at K l k)) own → Misses C g ps
  misses ps are l k = (
    λ h. let e = listed (λ l k. R l (end k) && not (at K l k)) own l k (from_pair _ l k (subst (λ rs. HasPair rs l k) are h)) in
        let b = both_of (R l (end k)) (not (at K l k)) e.0 in
        let i = subst (λ m. l < m) own_is e.1 in let j = subst (λ m. k < m) own_is e.2 in
        record { long = i; short = j; needed = (least l (end k)).0 b.0; unknown = λ x. negated (at K l k) b.1 ((rows l k i j).1 x) },
    λ m. subst (λ rs. HasPair rs l k) (sym are) (to_pair _ l k (lists (λ l k. R l (end k) && not (at K l k)) own l k
        (subst (λ x. l < x) (sym own_is) m.long) (subst (λ x. k < x) (sym own_is) m.short)
        (ap (λ b. b && not (at K l k)) ((least l (end k)).1 m.needed) ∙ unknown (at K l k) (λ e. m.unknown ((rows l k m.long m.short).0 e))))),
  )

-- where none is, sets keep to what is known
module _ (C : Context) (R : Sets) (K : List (List ℕ)) (own : ℕ) (own_is : own ≡ C.lifetimes.own)
    (rows : (l k : ℕ) → l < C.lifetimes.own → k < C.lifetimes.own → (at K l k ≡ true) ↔ known.KnownToOutlive C l k) where
  pub keeps : (ps : List Bound) → ps ≡ pairs_below (λ l k. R l (end k) && not (at K l k)) own → ps ≡ [] → Keeps C R
  keeps ps are none l k i j e = by_row (at K l k) refl where
    by_row : (b : Bool) → at K l k ≡ b → known.KnownToOutlive C l k
    by_row true x = (rows l k i j).0 x
    by_row false x = absurd (subst (λ qs. HasPair qs l k) none (subst (λ qs. HasPair qs l k) (sym are) (to_pair _ l k
        (lists (λ l k. R l (end k) && not (at K l k)) own l k (subst (λ m. l < m) (sym own_is) i) (subst (λ m. k < m) (sym own_is) j)
        (ap (λ b. b && not (at K l k)) e ∙ ap (λ b. not b) x)))))
