-- What fits a signature speaks of the signature's lifetimes alone; and numbers that agree on the lifetimes of a type make the same of it.
use Rattle.std.proofs.Common.{◌≡◌, ◌⊎◌, inl, inr, ℕ, ◌<◌, nat_lt, true, ◌&&◌, List, [], ◌∷◌, ◌++◌, map, Option, Some, None, refl, sym, ap, ap₂, subst, ◌∙◌}
use Rattle.std.proofs.lemmas.Bool.{ltb-true}
use Rattle.rx_core.specs.declared.types.Bound.{Bound}
use Rattle.rx_graph.proofs.Spreading.{both_of}
use Rattle.rx_graph_cycles.specs.Reaches.{IsIn}
use Rattle.rx_graph_cycles.proofs.Ways.{is_in_front, is_in_behind, is_in_either}
use Rattle.rx_typed.specs.Regions.{RegionTyp, region_integer, region_boolean, region_tuple, region_reference, region_named, RegionTyps, no_region, region_and, lifetimes_in, lifetimes_among}
use Rattle.rx_typed.specs.Renaming.{renamed, all_renamed}
use Rattle.rx_typed.specs.Types.{Declarations}
use Rattle.rx_typed_declarations.specs.WellFormed.{all_below, fits, all_fit, bounds_fit}
use Rattle.rx_region_outlives.specs.Implied.{HasPair}

less : (a b : ℕ) → nat_lt a b ≡ true → a < b
less a b h = ltb-true a b h

list_below : (n : ℕ) (ls : List ℕ) → all_below n ls ≡ true → (l : ℕ) → IsIn ls l → l < n
list_below n [] e l h = absurd h
list_below n (x ∷ ls) e l (inl is) = subst (λ y. y < n) is (less x n (both_of (nat_lt x n) (all_below n ls) e).0)
list_below n (x ∷ ls) e l (inr h) = list_below n ls (both_of (nat_lt x n) (all_below n ls) e).1 l h

module _ (E : Declarations) (n : ℕ) where
  either_below : (t : RegionTyp) (ts : RegionTyps) (l : ℕ) → (IsIn (lifetimes_in t) l → l < n) → (IsIn (lifetimes_among ts) l → l < n) → IsIn (lifetimes_in t) l ⊎ IsIn (lifetimes_among ts) l → l < n
  either_below t ts l f g (inl a) = f a
  either_below t ts l f g (inr b) = g b

  mutual
    pub type_below : (t : RegionTyp) → fits E n t ≡ true → (l : ℕ) → IsIn (lifetimes_in t) l → l < n
    type_below (region_integer k) e l h = absurd h
    type_below region_boolean e l h = absurd h
    type_below (region_tuple ts) e l h = types_below ts e l h
    type_below (region_reference m x t) e l (inl is) = subst (λ y. y < n) is (less x n (both_of (nat_lt x n) (fits E n t) e).0)
    type_below (region_reference m x t) e l (inr h) = type_below t (both_of (nat_lt x n) (fits E n t) e).1 l h
    type_below (region_named i ls) e l h = list_below n ls (both_of _ (all_below n ls) e).1 l h

    pub types_below : (ts : RegionTyps) → all_fit E n ts ≡ true → (l : ℕ) → IsIn (lifetimes_among ts) l → l < n
    types_below no_region e l h = absurd h
    types_below (region_and t ts) e l h = either_below t ts l (type_below t (both_of (fits E n t) (all_fit E n ts) e).0 l) (types_below ts (both_of (fits E n t) (all_fit E n ts) e).1 l)
        (is_in_either (lifetimes_in t) (lifetimes_among ts) l h)

pub bounds_below : (n : ℕ) (bs : List Bound) → bounds_fit n bs ≡ true → (l k : ℕ) → HasPair bs l k → (l < n) × (k < n)
bounds_below n [] e l k h = absurd h
bounds_below n (b ∷ bs) e l k (inl is) =
    let a = both_of (nat_lt b.long n && nat_lt b.short n) (bounds_fit n bs) e in
    let c = both_of (nat_lt b.long n) (nat_lt b.short n) a.0 in
    (subst (λ y. y < n) (ap (λ (z : Bound). z.long) is) (less b.long n c.0), subst (λ y. y < n) (ap (λ (z : Bound). z.short) is) (less b.short n c.1))
bounds_below n (b ∷ bs) e l k (inr h) = bounds_below n bs (both_of (nat_lt b.long n && nat_lt b.short n) (bounds_fit n bs) e).1 l k h

-- ---- numbers that agree

module _ (f g : ℕ → ℕ) where
  list_agrees : (ls : List ℕ) → ((l : ℕ) → IsIn ls l → f l ≡ g l) → map f ls ≡ map g ls
  list_agrees [] h = refl
  list_agrees (l ∷ ls) h = ap₂ (λ x xs. x ∷ xs) (h l (inl refl)) (list_agrees ls (λ k w. h k (inr w)))

  mutual
    pub type_agrees : (t : RegionTyp) → ((l : ℕ) → IsIn (lifetimes_in t) l → f l ≡ g l) → renamed f t ≡ renamed g t
    type_agrees (region_integer k) h = refl
    type_agrees region_boolean h = refl
    type_agrees (region_tuple ts) h = ap region_tuple (types_agree ts h)
    type_agrees (region_reference m l t) h = ap₂ (region_reference m) (h l (inl refl)) (type_agrees t (λ k w. h k (inr w)))
    type_agrees (region_named i ls) h = ap (region_named i) (list_agrees ls h)

    pub types_agree : (ts : RegionTyps) → ((l : ℕ) → IsIn (lifetimes_among ts) l → f l ≡ g l) → all_renamed f ts ≡ all_renamed g ts
    types_agree no_region h = refl
    types_agree (region_and t ts) h = ap₂ region_and (type_agrees t (λ l w. h l (is_in_front (lifetimes_in t) (lifetimes_among ts) l w)))
        (types_agree ts (λ l w. h l (is_in_behind (lifetimes_in t) (lifetimes_among ts) l w)))
