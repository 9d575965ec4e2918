-- There is a list of the least bounds: which pairs they are is decided, as the least sets are, and the pairs of two numbers below
-- another for which a test holds are listed in order.
use Rattle.std.proofs.Common.{◌≡◌, ◌≢◌, ◌⊎◌, ◌↔◌, inl, inr, ℕ, zero, suc, ◌<◌, ◌≤◌, Bool, true, false, List, [], ◌∷◌, ◌++◌, refl, sym, ap, subst, arith}
use Rattle.rx_core.specs.declared.types.Bound.{Bound}
use Rattle.rx_lower_walks.specs.Graph.{Site}
use Rattle.rx_graph_closure.specs.Listing.{pair_if, pairs_of, pairs_from, pairs_below}
use Rattle.rx_graph_closure.proofs.Listed as closing
use Rattle.rx_graph_closure.proofs.Listed.{listed, lists}
use Rattle.rx_region_outlives.specs.Implied.{HasPair}
use Rattle.rx_region_outlives.proofs.ImpliedLemmas.{has_either}
use Rattle.rx_region.specs.Constraints.{Context}
use Rattle.rx_region.specs.Solutions.{end, Least}
use Rattle.rx_region.proofs.LeastLaws.{least_serves, least_is_within}
use Rattle.rx_region.specs.Tables.{Follows}
use Rattle.rx_repair.specs.LeastBounds.{by_types, IsLeastBound, Before, InOrder, AreLeastBounds}
use Rattle.rx_repair.proofs.Deciding.{Decided, same_or, follows_or}
use Rattle.rx_repair.proofs.Existing.{says, said, both_or, less_or, least_or, least_sets, are_least}

-- ---- in order

appended : (ps qs : List Bound) → InOrder ps → InOrder qs → ((b c : Bound) → HasPair ps b.long b.short → HasPair qs c.long c.short → Before b c) → InOrder (ps ++ qs)
appended [] qs o p before = p
appended (b ∷ ps) qs o p before = (
  λ c h. elim (has_either ps qs c.long c.short h) [ inl x ↦ o.0 c x | inr y ↦ before b c (inl refl) y ],
  appended ps qs o.1 p (λ x y h k. before x y (inr h) k),
)

if_is : (b : Bool) (x y l k : ℕ) → HasPair (pair_if b x y) l k → (x ≡ l) × (y ≡ k)
if_is true x y l k (inl e) = (ap (λ (p : Bound). p.long) e, ap (λ (p : Bound). p.short) e)
if_is true x y l k (inr h) = absurd h
if_is false x y l k h = absurd h

if_ordered : (b : Bool) (x y : ℕ) → InOrder (pair_if b x y)
if_ordered true x y = (λ c h. absurd h, tt)
if_ordered false x y = tt

of_low : (f : ℕ → ℕ → Bool) (x y n l k : ℕ) → HasPair (pairs_of f x y n) l k → (x ≡ l) × (y ≤ k)
of_low f x y zero l k h = absurd h
of_low f x y (suc n) l k h = elim (has_either (pair_if (f x y) x y) (pairs_of f x (suc y) n) l k h) [
  | inl p ↦ (let e = if_is (f x y) x y l k p in let i = e.1 in (e.0, omega (arith, i)))
  | inr q ↦ (let e = of_low f x (suc y) n l k q in let i = e.1 in (e.0, omega (arith, i)))
]

from_low : (f : ℕ → ℕ → Bool) (n x m l k : ℕ) → HasPair (pairs_from f n x m) l k → x ≤ l
from_low f n x zero l k h = absurd h
from_low f n x (suc m) l k h = elim (has_either (pairs_of f x 0 n) (pairs_from f n (suc x) m) l k h) [
  | inl p ↦ (let e = (of_low f x 0 n l k p).0 in omega (arith, e))
  | inr q ↦ (let e = from_low f n (suc x) m l k q in omega (arith, e))
]

of_ordered : (f : ℕ → ℕ → Bool) (x y n : ℕ) → InOrder (pairs_of f x y n)
of_ordered f x y zero = tt
of_ordered f x y (suc n) = appended (pair_if (f x y) x y) (pairs_of f x (suc y) n) (if_ordered (f x y) x y) (of_ordered f x (suc y) n) (λ b c h k.
    let i = if_is (f x y) x y b.long b.short h in let j = of_low f x (suc y) n c.long c.short k in
    let v = i.0 in let w = i.1 in let u = j.0 in let z = j.1 in inr (omega (arith, v, u), omega (arith, w, z)))

from_ordered : (f : ℕ → ℕ → Bool) (n x m : ℕ) → InOrder (pairs_from f n x m)
from_ordered f n x zero = tt
from_ordered f n x (suc m) = appended (pairs_of f x 0 n) (pairs_from f n (suc x) m) (of_ordered f x 0 n) (from_ordered f n (suc x) m) (λ b c h k.
    let v = (of_low f x 0 n b.long b.short h).0 in let w = from_low f n (suc x) m c.long c.short k in inl (omega (arith, v, w)))

pub below_ordered : (f : ℕ → ℕ → Bool) (n : ℕ) → InOrder (pairs_below f n)
below_ordered f n = from_ordered f n 0 n

-- ---- the least bounds

has_listed : (ps : List Bound) (l k : ℕ) → closing.HasPair ps l k → HasPair ps l k
has_listed [] l k h = h
has_listed (b ∷ ps) l k (inl e) = inl e
has_listed (b ∷ ps) l k (inr h) = inr (has_listed ps l k h)

has_closing : (ps : List Bound) (l k : ℕ) → HasPair ps l k → closing.HasPair ps l k
has_closing [] l k h = h
has_closing (b ∷ ps) l k (inl e) = inl e
has_closing (b ∷ ps) l k (inr h) = inr (has_closing ps l k h)

not_or : {A : Type 0} → Decided A → Decided (A → ⊥)
not_or (inl a) = inr (λ n. n a)
not_or (inr n) = inl n

module _ (C : Context) (g : List Site) where
  -- as it is decided
  abbrev Needed : ℕ → ℕ → Type 0
  Needed l k = (l ≡ k → ⊥) × (Least C g l (end k) × (Follows (by_types C) l k → ⊥))

  needed_or : (l k : ℕ) → Decided (Needed l k)
  needed_or l k = both_or (not_or (same_or l k)) (both_or (least_or C g l (end k)) (not_or (follows_or (by_types C) l k)))

  abbrev test : ℕ → ℕ → Bool
  test l k = says (needed_or l k)

  pub least_list : List Bound
  least_list = pairs_below test C.lifetimes.own

  forth : (l k : ℕ) → HasPair (pairs_below test C.lifetimes.own) l k → IsLeastBound C g l k
  forth l k h =
      let e = listed test C.lifetimes.own l k (has_closing (pairs_below test C.lifetimes.own) l k h) in
      let n = (said (needed_or l k)).0 e.0 in
      record { long = e.1; short = e.2; different = n.0; needed = λ R s. least_is_within C g R s l (end k) n.1.0; unknown = n.1.1 }

  back : (l k : ℕ) → IsLeastBound C g l k → HasPair (pairs_below test C.lifetimes.own) l k
  back l k b = has_listed (pairs_below test C.lifetimes.own) l k (lists test C.lifetimes.own l k b.long b.short ((said (needed_or l k)).1
      (b.different, ((are_least C g l (end k)).0 (b.needed (least_sets C g) (least_serves C g (least_sets C g) (are_least C g))), b.unknown))))

  pub are_listed : AreLeastBounds C g least_list
  unfolding least_list
  are_listed = record { exact = λ l k. (forth l k, back l k); ordered = below_ordered test C.lifetimes.own }
