-- Which pairs a list has.
use Rattle.std.proofs.Common.{◌≡◌, ◌⊎◌, inl, inr, ℕ, zero, suc, ◌+◌, ◌<◌, ◌≤◌, Bool, true, false, List, [], ◌∷◌, ◌++◌, refl, ap, sym, ◌∙◌, subst, arith, true≢false}
use Rattle.std.proofs.lemmas.Bool.{cases_eq}
use Rattle.rx_core.specs.declared.types.Bound.{Bound}
use Rattle.rx_graph_closure.specs.Listing.{pair_if, pairs_of, pairs_from, pairs_below}

-- a list has the pair
abbrev pub HasPair : List Bound → ℕ → ℕ → Type 0
HasPair [] l k = ⊥
HasPair (b ∷ bs) l k = (b ≡ record { long = l; short = k }) ⊎ HasPair bs l k

one_of_both : (ps qs : List Bound) (l k : ℕ) → HasPair (ps ++ qs) l k → HasPair ps l k ⊎ HasPair qs l k
one_of_both [] qs l k h = inr h
one_of_both (p ∷ ps) qs l k (inl e) = inl (inl e)
one_of_both (p ∷ ps) qs l k (inr h) = again (one_of_both ps qs l k h) where
  again : HasPair ps l k ⊎ HasPair qs l k → HasPair (p ∷ ps) l k ⊎ HasPair qs l k
  again (inl x) = inl (inr x)
  again (inr x) = inr x

in_first : (ps qs : List Bound) (l k : ℕ) → HasPair ps l k → HasPair (ps ++ qs) l k
in_first [] qs l k h = absurd h
in_first (p ∷ ps) qs l k (inl e) = inl e
in_first (p ∷ ps) qs l k (inr h) = inr (in_first ps qs l k h)

in_second : (ps qs : List Bound) (l k : ℕ) → HasPair qs l k → HasPair (ps ++ qs) l k
in_second [] qs l k h = h
in_second (p ∷ ps) qs l k h = inr (in_second ps qs l k h)

abbrev pair : ℕ → ℕ → Bound
pair l k = record { long = l; short = k }

from_if : (b : Bool) (x y l k : ℕ) → HasPair (pair_if b x y) l k → (b ≡ true) × (x ≡ l) × (y ≡ k)
from_if true x y l k (inl e) = (refl, ap (λ (p : Bound). p.long) e, ap (λ (p : Bound). p.short) e)
from_if true x y l k (inr h) = absurd h
from_if false x y l k h = absurd h

to_if : (b : Bool) (l k : ℕ) → b ≡ true → HasPair (pair_if b l k) l k
to_if true l k e = inl refl
to_if false l k e = absurd (true≢false (sym e))

-- of one longer
of_told : (f : ℕ → ℕ → Bool) (x y n l k : ℕ) → HasPair (pairs_of f x y n) l k → (x ≡ l) × (f x k ≡ true) × (k < y + n)
of_told f x y zero l k h = absurd h
of_told f x y (suc n) l k h = go (one_of_both (pair_if (f x y) x y) (pairs_of f x (suc y) n) l k h) (of_told f x (suc y) n l k) where
  go : HasPair (pair_if (f x y) x y) l k ⊎ HasPair (pairs_of f x (suc y) n) l k
      → (HasPair (pairs_of f x (suc y) n) l k → (x ≡ l) × (f x k ≡ true) × (k < suc y + n)) → (x ≡ l) × (f x k ≡ true) × (k < y + suc n)
  go (inl p) rest = let e = from_if (f x y) x y l k p in (e.1, ap (λ j. f x j) (sym e.2) ∙ e.0, (let i = e.2 in omega (arith, i)))
  go (inr p) rest = let e = rest p in (e.0, e.1, (let i = e.2 in omega (arith, i)))

of_has : (f : ℕ → ℕ → Bool) (x y n k : ℕ) → y ≤ k → k < y + n → f x k ≡ true → HasPair (pairs_of f x y n) x k
of_has f x y zero k h j e = absurd (omega (arith, h, j))
of_has f x y (suc n) k h j e = go (cases_eq k y) (λ d. of_has f x (suc y) n k (omega (arith, h, d)) (omega (arith, j)) e) where
  go : (k ≡ y) ⊎ (k ≡ y → ⊥) → ((k ≡ y → ⊥) → HasPair (pairs_of f x (suc y) n) x k) → HasPair (pair_if (f x y) x y ++ pairs_of f x (suc y) n) x k
  go (inl i) rest = subst (λ z. HasPair (pair_if (f x y) x y ++ pairs_of f x (suc y) n) x z) (sym i)
      (in_first (pair_if (f x y) x y) (pairs_of f x (suc y) n) x y (to_if (f x y) x y (ap (λ z. f x z) (sym i) ∙ e)))
  go (inr d) rest = in_second (pair_if (f x y) x y) (pairs_of f x (suc y) n) x k (rest d)

from_told : (f : ℕ → ℕ → Bool) (n x m l k : ℕ) → HasPair (pairs_from f n x m) l k → (f l k ≡ true) × (l < x + m) × (k < n)
from_told f n x zero l k h = absurd h
from_told f n x (suc m) l k h = go (one_of_both (pairs_of f x 0 n) (pairs_from f n (suc x) m) l k h) (from_told f n (suc x) m l k) where
  go : HasPair (pairs_of f x 0 n) l k ⊎ HasPair (pairs_from f n (suc x) m) l k
      → (HasPair (pairs_from f n (suc x) m) l k → (f l k ≡ true) × (l < suc x + m) × (k < n)) → (f l k ≡ true) × (l < x + suc m) × (k < n)
  go (inl p) rest = let e = of_told f x 0 n l k p in (ap (λ z. f z k) (sym e.0) ∙ e.1, (let i = e.0 in omega (arith, i)), (let i = e.2 in omega (arith, i)))
  go (inr p) rest = let e = rest p in (e.0, (let i = e.1 in omega (arith, i)), e.2)

from_has : (f : ℕ → ℕ → Bool) (n x m l k : ℕ) → x ≤ l → l < x + m → k < n → f l k ≡ true → HasPair (pairs_from f n x m) l k
from_has f n x zero l k h j i e = absurd (omega (arith, h, j))
from_has f n x (suc m) l k h j i e = go (cases_eq l x) (λ d. from_has f n (suc x) m l k (omega (arith, h, d)) (omega (arith, j)) i e) where
  go : (l ≡ x) ⊎ (l ≡ x → ⊥) → ((l ≡ x → ⊥) → HasPair (pairs_from f n (suc x) m) l k) → HasPair (pairs_of f x 0 n ++ pairs_from f n (suc x) m) l k
  go (inl d) rest = subst (λ z. HasPair (pairs_of f x 0 n ++ pairs_from f n (suc x) m) z k) (sym d)
      (in_first (pairs_of f x 0 n) (pairs_from f n (suc x) m) x k (of_has f x 0 n k (omega arith) (omega (arith, i)) (ap (λ z. f z k) (sym d) ∙ e)))
  go (inr d) rest = in_second (pairs_of f x 0 n) (pairs_from f n (suc x) m) l k (rest d)

-- the pairs below a number are those of which the test holds
pub listed : (f : ℕ → ℕ → Bool) (n l k : ℕ) → HasPair (pairs_below f n) l k → (f l k ≡ true) × (l < n) × (k < n)
listed f n l k h = let e = from_told f n 0 n l k h in let i = e.1 in (e.0, omega (arith, i), e.2)

pub lists : (f : ℕ → ℕ → Bool) (n l k : ℕ) → l < n → k < n → f l k ≡ true → HasPair (pairs_below f n) l k
lists f n l k i j e = from_has f n 0 n l k (omega arith) (omega (arith, i)) j e
