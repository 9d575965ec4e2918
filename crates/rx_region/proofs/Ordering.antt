-- The first of the pairs that are listed comes before all others.
use Rattle.std.proofs.Common.{◌≡◌, ◌⊎◌, inl, inr, ℕ, zero, suc, ◌≤◌, Bool, true, false, List, [], ◌∷◌, ◌++◌, Result, refl, sym, ap, subst, arith}
use Rattle.rx_core.specs.declared.types.Bound.{Bound}
use Rattle.rx_graph_closure.specs.Listing.{pair_if, pairs_of, pairs_from, pairs_below}
use Rattle.rx_region_outlives.specs.Implied.{HasPair}
use Rattle.rx_lower_walks.specs.Graph.{Site}
use Rattle.rx_region.specs.Constraints.{Context}
use Rattle.rx_region.specs.declared.regions.Regions.{Regions}
use Rattle.rx_region.specs.declared.pass.RegionFault.{RegionFault}
use Rattle.rx_region.specs.Passing.{RegionAnswer, Precedes, FirstIsLeast, Solved, FirstOf}

one_of_both : (ps qs : List Bound) (l k : ℕ) → HasPair (ps ++ qs) l k → HasPair ps l k ⊎ HasPair qs l k
one_of_both [] qs l k h = inr h
one_of_both (p ∷ ps) qs l k (inl e) = inl (inl e)
one_of_both (p ∷ ps) qs l k (inr h) = again (one_of_both ps qs l k h) where
  again : HasPair ps l k ⊎ HasPair qs l k → HasPair (p ∷ ps) l k ⊎ HasPair qs l k
  again (inl x) = inl (inr x)
  again (inr x) = inr x

of_if : (b : Bool) (x y l k : ℕ) → HasPair (pair_if b x y) l k → (x ≡ l) × (y ≡ k)
of_if true x y l k (inl e) = (ap (λ (p : Bound). p.long) e, ap (λ (p : Bound). p.short) e)
of_if true x y l k (inr h) = absurd h
of_if false x y l k h = absurd h

of_low : (f : ℕ → ℕ → Bool) (x y n l k : ℕ) → HasPair (pairs_of f x y n) l k → (x ≡ l) × (y ≤ k)
of_low f x y zero l k h = absurd h
of_low f x y (suc n) l k h = go (one_of_both (pair_if (f x y) x y) (pairs_of f x (suc y) n) l k h) (of_low f x (suc y) n l k) where
  go : HasPair (pair_if (f x y) x y) l k ⊎ HasPair (pairs_of f x (suc y) n) l k → (HasPair (pairs_of f x (suc y) n) l k → (x ≡ l) × (suc y ≤ k)) → (x ≡ l) × (y ≤ k)
  go (inl p) rest = let e = of_if (f x y) x y l k p in (e.0, (let i = e.1 in omega (arith, i)))
  go (inr p) rest = let e = rest p in (e.0, (let i = e.1 in omega (arith, i)))

from_low : (f : ℕ → ℕ → Bool) (n x m l k : ℕ) → HasPair (pairs_from f n x m) l k → x ≤ l
from_low f n x zero l k h = absurd h
from_low f n x (suc m) l k h = go (one_of_both (pairs_of f x 0 n) (pairs_from f n (suc x) m) l k h) (from_low f n (suc x) m l k) where
  go : HasPair (pairs_of f x 0 n) l k ⊎ HasPair (pairs_from f n (suc x) m) l k → (HasPair (pairs_from f n (suc x) m) l k → suc x ≤ l) → x ≤ l
  go (inl p) rest = let e = (of_low f x 0 n l k p).0 in omega (arith, e)
  go (inr p) rest = let e = rest p in omega (arith, e)

first_of : (f : ℕ → ℕ → Bool) (x y n : ℕ) → FirstIsLeast (pairs_of f x y n)
first_of f x y zero = tt
first_of f x y (suc n) = go (f x y) (first_of f x (suc y) n) where
  go : (b : Bool) → FirstIsLeast (pairs_of f x (suc y) n) → FirstIsLeast (pair_if b x y ++ pairs_of f x (suc y) n)
  go true rest = λ l k h. at l k h where
    at : (l k : ℕ) → HasPair (pair_if true x y ++ pairs_of f x (suc y) n) l k → Precedes x y l k
    at l k (inl e) = inr (ap (λ (p : Bound). p.long) e, (let i = ap (λ (p : Bound). p.short) e in omega (arith, i)))
    at l k (inr h) = let e = of_low f x (suc y) n l k h in inr (e.0, (let i = e.1 in omega (arith, i)))
  go false rest = rest

first_from : (f : ℕ → ℕ → Bool) (n x m : ℕ) → FirstIsLeast (pairs_from f n x m)
first_from f n x zero = tt
first_from f n x (suc m) = go (pairs_of f x 0 n) (first_of f x 0 n) (λ l k h. of_low f x 0 n l k h) (first_from f n (suc x) m) where
  go : (ps : List Bound) → FirstIsLeast ps → ((l k : ℕ) → HasPair ps l k → (x ≡ l) × (0 ≤ k)) → FirstIsLeast (pairs_from f n (suc x) m) → FirstIsLeast (ps ++ pairs_from f n (suc x) m)
  go [] first low rest = rest
  go (p ∷ ps) first low rest = λ l k h. at l k (one_of_both (p ∷ ps) (pairs_from f n (suc x) m) l k h) where
    at : (l k : ℕ) → HasPair (p ∷ ps) l k ⊎ HasPair (pairs_from f n (suc x) m) l k → Precedes p.long p.short l k
    at l k (inl h) = first l k h
    at l k (inr h) = let e = (low p.long p.short (inl refl)).0 in let i = from_low f n (suc x) m l k h in inl (omega (arith, e, i))

pub first_below : (f : ℕ → ℕ → Bool) (n : ℕ) → FirstIsLeast (pairs_below f n)
first_below f n = first_from f n 0 n

pub first_listed : (f : ℕ → ℕ → Bool) (n : ℕ) (ps : List Bound) → ps ≡ pairs_below f n → FirstIsLeast ps
first_listed f n ps e = subst FirstIsLeast (sym e) (first_below f n)

-- ---- what is answered

by_list : (C : Context) (g : List Site) (r : Regions) (ps : List Bound) (q : Result Regions RegionFault) → Solved C g r ps → FirstOf r ps q → RegionAnswer C g q
by_list C g r [] q s h = subst (RegionAnswer C g) (sym h) (s.least, s.keeps refl, s.sites)
by_list C g r (b ∷ bs) q s h = subst (RegionAnswer C g) (sym h) ((s.misses b.long b.short).0 (inl refl), λ x y m. s.first x y ((s.misses x y).1 m))

pub answered : (C : Context) (g : List Site) (r : Regions) (ps qs : List Bound) (q : Result Regions RegionFault) → Solved C g r ps → qs ≡ ps → FirstOf r qs q → RegionAnswer C g q
answered C g r ps qs q s e h = by_list C g r ps q s (subst (λ l. FirstOf r l q) e h)
