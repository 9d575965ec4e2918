-- What types ask, with other lifetimes in their places: the same of these. By induction on types.
use Rattle.std.proofs.Common.{◌≡◌, ℕ, true, false, List, [], ◌∷◌, ◌++◌, map, Option, Some, None, option_map, slice_get, refl, sym, ap, ◌∙◌}
use Rattle.std.proofs.lemmas.List.{map-append}
use Rattle.std.proofs.lemmas.Option.{slice_get-map}
use Rattle.rx_core.specs.declared.types.Bound.{Bound}
use Rattle.rx_typed.specs.declared.declarations.Polarity.{Polarity}
use Rattle.rx_typed.specs.declared.declarations.Polarity.TheVariants.{Co, Inv}
use Rattle.rx_typed.specs.Regions.{RegionTyp, region_integer, region_boolean, region_tuple, region_reference, region_named, RegionTyps, no_region, region_and, lifetimes_in, lifetimes_among}
use Rattle.rx_typed.specs.Renaming.{renamed, all_renamed, bound_renamed}
use Rattle.rx_region_outlives.specs.Related.{outlives, in_place, within, first_polarity, other_polarities, arguments, related, all_related}
use Rattle.rx_region_outlives.specs.Implied.{pair_of, with_arguments, all_outlive, implied_in, implied_among}

module _ (f : ℕ → ℕ) where
  abbrev pub bounds : List Bound → List Bound
  bounds bs = map (bound_renamed f) bs

  -- two lists behind one another
  pub both_lists : (ps qs us vs : List Bound) → us ≡ map (bound_renamed f) ps → vs ≡ map (bound_renamed f) qs → us ++ vs ≡ map (bound_renamed f) (ps ++ qs)
  both_lists ps qs us vs d e = (λ j. d j ++ e j) ∙ sym (map-append (bound_renamed f) ps qs)

  -- ---- the lifetimes of a type

  mutual
    pub lifetimes_are : (t : RegionTyp) → lifetimes_in (renamed f t) ≡ map f (lifetimes_in t)
    lifetimes_are (region_integer k) = refl
    lifetimes_are region_boolean = refl
    lifetimes_are (region_tuple ts) = among_are ts
    lifetimes_are (region_reference m l t) = ap (λ (xs : List ℕ). f l ∷ xs) (lifetimes_are t)
    lifetimes_are (region_named i ls) = refl

    among_are : (ts : RegionTyps) → lifetimes_among (all_renamed f ts) ≡ map f (lifetimes_among ts)
    among_are no_region = refl
    among_are (region_and t ts) = (λ j. lifetimes_are t j ++ among_are ts j) ∙ sym (map-append f (lifetimes_in t) (lifetimes_among ts))

  -- ---- a type in the place of another

  in_place_is : (p : Polarity) (l k : ℕ) → in_place p (f l) (f k) ≡ map (bound_renamed f) (in_place p l k)
  in_place_is Co l k = refl
  in_place_is Inv l k = refl

  arguments_are : (p : Polarity) (vs : List Polarity) (ls ks : List ℕ) → arguments p vs (map f ls) (map f ks) ≡ map (bound_renamed f) (arguments p vs ls ks)
  arguments_are p vs [] ks = refl
  arguments_are p vs (l ∷ ls) [] = refl
  arguments_are p vs (l ∷ ls) (k ∷ ks) =
      both_lists (in_place (within p (first_polarity vs)) l k) (arguments p (other_polarities vs) ls ks)
      (in_place (within p (first_polarity vs)) (f l) (f k)) (arguments p (other_polarities vs) (map f ls) (map f ks))
      (in_place_is (within p (first_polarity vs)) l k) (arguments_are p (other_polarities vs) ls ks)

  module _ (V : ℕ → List Polarity) where
    mutual
      pub related_is : (p : Polarity) (t u : RegionTyp) → related V p (renamed f t) (renamed f u) ≡ map (bound_renamed f) (related V p t u)
      related_is p (region_tuple ts) (region_tuple us) = all_related_are p ts us
      related_is p (region_reference false l t) (region_reference false k u) =
          both_lists (in_place p l k) (related V p t u) (in_place p (f l) (f k)) (related V p (renamed f t) (renamed f u)) (in_place_is p l k) (related_is p t u)
      related_is p (region_reference true l t) (region_reference true k u) =
          both_lists (in_place p l k) (related V Inv t u) (in_place p (f l) (f k)) (related V Inv (renamed f t) (renamed f u)) (in_place_is p l k) (related_is Inv t u)
      related_is p (region_named i ls) (region_named j ks) = arguments_are p (V i) ls ks
      related_is p _ _ = refl

      all_related_are : (p : Polarity) (ts us : RegionTyps) → all_related V p (all_renamed f ts) (all_renamed f us) ≡ map (bound_renamed f) (all_related V p ts us)
      all_related_are p (region_and t ts) (region_and u us) =
          both_lists (related V p t u) (all_related V p ts us) (related V p (renamed f t) (renamed f u)) (all_related V p (all_renamed f ts) (all_renamed f us))
          (related_is p t u) (all_related_are p ts us)
      all_related_are p _ _ = refl

  -- ---- types that are formed

  outlive_are : (ls : List ℕ) (k : ℕ) → all_outlive (map f ls) (f k) ≡ map (bound_renamed f) (all_outlive ls k)
  outlive_are [] k = refl
  outlive_are (l ∷ ls) k = ap (λ (bs : List Bound). outlives (f l) (f k) ∷ bs) (outlive_are ls k)

  pair_is : (a b : Option ℕ) → pair_of (option_map f a) (option_map f b) ≡ map (bound_renamed f) (pair_of a b)
  pair_is None b = refl
  pair_is (Some l) None = refl
  pair_is (Some l) (Some k) = refl

  by_arguments : (ls : List ℕ) (bs : List Bound) → with_arguments (map f ls) bs ≡ map (bound_renamed f) (with_arguments ls bs)
  by_arguments ls [] = refl
  by_arguments ls (b ∷ bs) =
      both_lists (pair_of (slice_get ls b.long) (slice_get ls b.short)) (with_arguments ls bs)
      (pair_of (slice_get (map f ls) b.long) (slice_get (map f ls) b.short)) (with_arguments (map f ls) bs)
      ((λ j. pair_of (slice_get-map f ls b.long j) (slice_get-map f ls b.short j)) ∙ pair_is (slice_get ls b.long) (slice_get ls b.short))
      (by_arguments ls bs)

  module _ (P : ℕ → List Bound) where
    mutual
      pub implied_is : (t : RegionTyp) → implied_in P (renamed f t) ≡ map (bound_renamed f) (implied_in P t)
      implied_is (region_integer n) = refl
      implied_is region_boolean = refl
      implied_is (region_tuple ts) = implied_are ts
      implied_is (region_reference m k t) =
          both_lists (all_outlive (lifetimes_in t) k) (implied_in P t) (all_outlive (lifetimes_in (renamed f t)) (f k)) (implied_in P (renamed f t))
          (ap (λ (ls : List ℕ). all_outlive ls (f k)) (lifetimes_are t) ∙ outlive_are (lifetimes_in t) k) (implied_is t)
      implied_is (region_named i ls) = by_arguments ls (P i)

      pub implied_are : (ts : RegionTyps) → implied_among P (all_renamed f ts) ≡ map (bound_renamed f) (implied_among P ts)
      implied_are no_region = refl
      implied_are (region_and t ts) =
          both_lists (implied_in P t) (implied_among P ts) (implied_in P (renamed f t)) (implied_among P (all_renamed f ts)) (implied_is t) (implied_are ts)
