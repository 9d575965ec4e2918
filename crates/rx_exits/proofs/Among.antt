-- Members of lists.
use Rattle.std.proofs.Common.{◌≡◌, ◌⊎◌, inl, inr, ℕ, zero, suc, ◌<◌, ◌≤◌, List, [], ◌∷◌, length, take, get_or, refl, ap, sym, subst, arith}
use Rattle.rx_lower_walks.specs.Walks.{Among, here, there}

pub among_first : {A : Type 0} (m x : A) (l : List A) → Among m (x ∷ l) → (m ≡ x) ⊎ Among m l
among_first m x l here = inl refl
among_first m x l (there h) = inr h

in_none : {A : Type 0} {B : Type 0} (m : A) (l : List A) → l ≡ [] → Among m l → B
in_none m l e here = absurd (cc)
in_none m l e (there h) = absurd (cc)

pub not_among : {A : Type 0} {B : Type 0} (m : A) → Among m [] → B
not_among m h = in_none m [] refl h

-- ---- the first elements of a list

pub in_front : {A : Type 0} (m : A) (l : List A) (k : ℕ) (d : A) → Among m (take (suc k) l) → (m ≡ get_or l k d) ⊎ Among m (take k l)
in_front m [] k d h = not_among m h
in_front m (x ∷ l) zero d h = by (among_first m x [] h)
  where
    by : (m ≡ x) ⊎ Among m [] → (m ≡ x) ⊎ Among m []
    by (inl e) = inl e
    by (inr h) = not_among m h
in_front m (x ∷ l) (suc k) d h = by (among_first m x (take (suc k) l) h) (λ y. in_front m l k d y)
  where
    later : (m ≡ get_or l k d) ⊎ Among m (take k l) → (m ≡ get_or l k d) ⊎ Among m (x ∷ take k l)
    later (inl e) = inl e
    later (inr h) = inr (there h)

    by : (m ≡ x) ⊎ Among m (take (suc k) l) → (Among m (take (suc k) l) → (m ≡ get_or l k d) ⊎ Among m (take k l)) → (m ≡ get_or l k d) ⊎ Among m (x ∷ take k l)
    by (inl e) rest = inr (subst (λ y. Among y (x ∷ take k l)) (sym e) here)
    by (inr h) rest = later (rest h)

pub got : {A : Type 0} (l : List A) (k : ℕ) (d : A) → k < length l → Among (get_or l k d) l
got [] k d h = absurd (omega (arith, h))
got (x ∷ l) zero d h = here
got (x ∷ l) (suc k) d h = there (got l k d (omega (arith, h)))

pub all_of : {A : Type 0} (l : List A) (k : ℕ) → length l ≤ k → take k l ≡ l
all_of [] zero h = refl
all_of [] (suc k) h = refl
all_of (x ∷ l) zero h = absurd (omega (arith, h))
all_of (x ∷ l) (suc k) h = ap (λ r. x ∷ r) (all_of l k (omega (arith, h)))
