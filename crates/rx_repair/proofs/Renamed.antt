-- With other lifetimes in their places types ask the same pairs of these, by induction on types; so what follows from a signature
-- follows, of the lifetimes of a call, from what the call asks.
use Rattle.std.proofs.Common.{◌≡◌, ◌⊎◌, inl, inr, ℕ, Bool, List, [], ◌∷◌, ◌++◌, map, Option, Some, None, option_map, slice_get, refl, sym, ap, subst, ◌∙◌}
use Rattle.std.proofs.lemmas.Option.{slice_get-map}
use Rattle.rx_core.specs.declared.types.Bound.{Bound}
use Rattle.rx_typed.specs.Regions.{RegionTyp, region_integer, region_boolean, region_tuple, region_reference, region_named, RegionTyps, no_region, region_and, lifetimes_in, lifetimes_among}
use Rattle.rx_region_outlives.specs.Related.{outlives}
use Rattle.rx_region_outlives.specs.Implied.{HasPair, pair_of, with_arguments, all_outlive, implied_in, implied_among}
use Rattle.rx_region_outlives.proofs.ImpliedLemmas.{has_front, has_behind, has_either}
use Rattle.rx_typed.specs.Renaming.{renamed, all_renamed, bound_renamed}
use Rattle.rx_region.specs.Tables.{Follows, itself, by}

map_append : (r : ℕ → ℕ) (ls ks : List ℕ) → map r (ls ++ ks) ≡ map r ls ++ map r ks
map_append r [] ks = refl
map_append r (l ∷ ls) ks = ap (λ (xs : List ℕ). r l ∷ xs) (map_append r ls ks)

module _ (r : ℕ → ℕ) where
  mutual
    lifetimes_renamed : (t : RegionTyp) → lifetimes_in (renamed r t) ≡ map r (lifetimes_in t)
    lifetimes_renamed (region_integer k) = refl
    lifetimes_renamed region_boolean = refl
    lifetimes_renamed (region_tuple ts) = among_lifetimes ts
    lifetimes_renamed (region_reference m l t) = ap (λ (xs : List ℕ). r l ∷ xs) (lifetimes_renamed t)
    lifetimes_renamed (region_named i ls) = refl

    among_lifetimes : (ts : RegionTyps) → lifetimes_among (all_renamed r ts) ≡ map r (lifetimes_among ts)
    among_lifetimes no_region = refl
    among_lifetimes (region_and t ts) = (λ j. lifetimes_renamed t j ++ among_lifetimes ts j) ∙ sym (map_append r (lifetimes_in t) (lifetimes_among ts))

  -- the second list has each pair of the first with the other lifetimes
  abbrev pub Moved : List Bound → List Bound → Type 0
  Moved ps qs = (l k : ℕ) → HasPair ps l k → HasPair qs (r l) (r k)

  pub both_moved : (ps qs us vs : List Bound) → Moved ps us → Moved qs vs → Moved (ps ++ qs) (us ++ vs)
  both_moved ps qs us vs a b l k h = elim (has_either ps qs l k h) [ inl x ↦ has_front us vs (r l) (r k) (a l k x) | inr y ↦ has_behind us vs (r l) (r k) (b l k y) ]

  abbrev pair_moved : Bound → Bound
  pair_moved b = outlives (r b.long) (r b.short)

  outlive_moved : (ls : List ℕ) (m : ℕ) → Moved (all_outlive ls m) (all_outlive (map r ls) (r m))
  outlive_moved [] m l k h = absurd h
  outlive_moved (x ∷ ls) m l k (inl e) = inl (ap pair_moved e)
  outlive_moved (x ∷ ls) m l k (inr h) = inr (outlive_moved ls m l k h)

  pair_of_moved : (a b : Option ℕ) → Moved (pair_of a b) (pair_of (option_map r a) (option_map r b))
  pair_of_moved None b l k h = absurd h
  pair_of_moved (Some x) None l k h = absurd h
  pair_of_moved (Some x) (Some y) l k (inl e) = inl (ap pair_moved e)
  pair_of_moved (Some x) (Some y) l k (inr h) = absurd h

  arguments_moved : (ls : List ℕ) (ps : List Bound) → Moved (with_arguments ls ps) (with_arguments (map r ls) ps)
  arguments_moved ls [] = λ l k h. h
  arguments_moved ls (b ∷ ps) =
      both_moved (pair_of (slice_get ls b.long) (slice_get ls b.short)) (with_arguments ls ps)
      (pair_of (slice_get (map r ls) b.long) (slice_get (map r ls) b.short)) (with_arguments (map r ls) ps)
      (subst (Moved (pair_of (slice_get ls b.long) (slice_get ls b.short))) (λ j. pair_of (sym (slice_get-map r ls b.long) j) (sym (slice_get-map r ls b.short) j))
      (pair_of_moved (slice_get ls b.long) (slice_get ls b.short)))
      (arguments_moved ls ps)

  module _ (P : ℕ → List Bound) where
    mutual
      pub implied_moved : (t : RegionTyp) → Moved (implied_in P t) (implied_in P (renamed r t))
      implied_moved (region_integer n) = λ l k h. h
      implied_moved region_boolean = λ l k h. h
      implied_moved (region_tuple ts) = among_moved ts
      implied_moved (region_reference m x t) =
          both_moved (all_outlive (lifetimes_in t) x) (implied_in P t) (all_outlive (lifetimes_in (renamed r t)) (r x)) (implied_in P (renamed r t))
          (subst (λ (ls : List ℕ). Moved (all_outlive (lifetimes_in t) x) (all_outlive ls (r x))) (sym (lifetimes_renamed t)) (outlive_moved (lifetimes_in t) x)) (implied_moved t)
      implied_moved (region_named i ls) = arguments_moved ls (P i)

      pub among_moved : (ts : RegionTyps) → Moved (implied_among P ts) (implied_among P (all_renamed r ts))
      among_moved no_region = λ l k h. h
      among_moved (region_and t ts) = both_moved (implied_in P t) (implied_among P ts) (implied_in P (renamed r t)) (implied_among P (all_renamed r ts)) (implied_moved t) (among_moved ts)

  pub bounds_moved : (bs : List Bound) → Moved bs (map (bound_renamed r) bs)
  bounds_moved [] l k h = absurd h
  bounds_moved (b ∷ bs) l k (inl e) = inl (ap pair_moved e)
  bounds_moved (b ∷ bs) l k (inr h) = inr (bounds_moved bs l k h)

  -- the pair that a renamed one was
  pub record Was (bs : List Bound) (x y : ℕ) : Type 0 where
    pub long : ℕ
    pub short : ℕ
    pub pair : HasPair bs long short
    pub first : r long ≡ x
    pub second : r short ≡ y

  pub bounds_back : (bs : List Bound) (x y : ℕ) → HasPair (map (bound_renamed r) bs) x y → Was bs x y
  bounds_back [] x y h = absurd h
  bounds_back (b ∷ bs) x y (inl e) = record { long = b.long; short = b.short; pair = inl refl; first = ap (λ (c : Bound). c.long) e; second = ap (λ (c : Bound). c.short) e }
  bounds_back (b ∷ bs) x y (inr h) = let w = bounds_back bs x y h in record { long = w.long; short = w.short; pair = inr w.pair; first = w.first; second = w.second }

  pub follows_moved : (ps qs : List Bound) → Moved ps qs → (l k : ℕ) → Follows ps l k → Follows qs (r l) (r k)
  follows_moved ps qs moved l k itself = itself
  follows_moved ps qs moved l k (by m pair rest) = by (r m) (moved l m pair) (follows_moved ps qs moved m k rest)
