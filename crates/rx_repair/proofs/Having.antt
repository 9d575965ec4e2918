-- Types that have as many lifetimes as what they name declares: with other numbers, as they are declared, without lifetimes, at places,
-- and of what actions make.
use Rattle.std.proofs.Common.{◌≡◌, ℕ, suc, ◌+◌, true, ◌&&◌, nat_lt, nat_eq, List, [], ◌∷◌, length, slice_get, refl, ap, ◌∙◌}
use Rattle.std.proofs.lemmas.Bool.{and_parts, eqb-true}
use Rattle.std.proofs.lemmas.List.{length-replicate}
use Rattle.rx_core.specs.declared.types.Kind.{Kind}
use Rattle.rx_core.specs.declared.types.Step.{Step}
use Rattle.rx_typed.specs.declared.declarations.Decl.{Decl}
use Rattle.rx_typed.specs.PlainTypes.{declarations}
use Rattle.rx_typed.specs.Regions.{RegionTyp, region_integer, region_boolean, region_tuple, region_reference, region_named, RegionTyps, no_region, region_and}
use Rattle.rx_typed.specs.Types.{Declarations, Typ, Shapes, integer, boolean, tuple_of, reference, named, no_shape, shape_and, lifetimes_declared}
use Rattle.rx_typed_declarations.specs.WellFormed.{is_adt, all_below, fits, all_fit}
use Rattle.rx_typed.specs.Numbers.{open_one, open_in, numbers, numbered, all_numbered}
use Rattle.rx_typed.specs.Places.{place_type, behind}
use Rattle.rx_typeck_solver.specs.Views.{unnumbered, all_unnumbered}
use Rattle.rx_repair.specs.Fitting.{HasAll, HaveAll}
use Rattle.rx_repair.proofs.RenamingPlaces.{Good, behind_is}

module _ (D : Declarations) where
  -- ---- with other numbers

  numbers_long : (from next : ℕ) (ls : List ℕ) → length (numbers from next ls) ≡ length ls
  numbers_long from next [] = refl
  numbers_long from next (l ∷ ls) = ap suc (numbers_long from (next + open_one from l) ls)

  mutual
    pub numbered_has : (from next : ℕ) (t : RegionTyp) → HasAll D t → HasAll D (numbered from next t)
    numbered_has from next (region_integer k) h = tt
    numbered_has from next region_boolean h = tt
    numbered_has from next (region_tuple ts) h = numbered_have from next ts h
    numbered_has from next (region_reference m l t) h = numbered_has from (next + open_one from l) t h
    numbered_has from next (region_named i ls) h = numbers_long from next ls ∙ h

    numbered_have : (from next : ℕ) (ts : RegionTyps) → HaveAll D ts → HaveAll D (all_numbered from next ts)
    numbered_have from next no_region h = tt
    numbered_have from next (region_and t ts) h = (numbered_has from next t h.0, numbered_have from (next + open_in from t) ts h.1)

  -- ---- as they are declared

  mutual
    pub fits_has : (n : ℕ) (t : RegionTyp) → fits D n t ≡ true → HasAll D t
    fits_has n (region_integer k) h = tt
    fits_has n region_boolean h = tt
    fits_has n (region_tuple ts) h = fit_have n ts h
    fits_has n (region_reference m l t) h = fits_has n t (and_parts (nat_lt l n) (fits D n t) h).1
    fits_has n (region_named i ks) h =
        let x = and_parts (is_adt (slice_get D i) && nat_eq (length ks) (lifetimes_declared (slice_get D i))) (all_below n ks) h in
        let y = and_parts (is_adt (slice_get D i)) (nat_eq (length ks) (lifetimes_declared (slice_get D i))) x.0 in
        eqb-true (length ks) (lifetimes_declared (slice_get D i)) y.1

    pub fit_have : (n : ℕ) (ts : RegionTyps) → all_fit D n ts ≡ true → HaveAll D ts
    fit_have n no_region h = tt
    fit_have n (region_and t ts) h = let x = and_parts (fits D n t) (all_fit D n ts) h in (fits_has n t x.0, fit_have n ts x.1)

  -- ---- without lifetimes

  mutual
    pub unnumbered_has : (t : Typ) → HasAll D (unnumbered D t)
    unnumbered_has (integer k) = tt
    unnumbered_has boolean = tt
    unnumbered_has (tuple_of ts) = unnumbered_have ts
    unnumbered_has (reference m t) = unnumbered_has t
    unnumbered_has (named i) = length-replicate (lifetimes_declared (slice_get D i)) 0

    unnumbered_have : (ts : Shapes Kind) → HaveAll D (all_unnumbered D ts)
    unnumbered_have no_shape = tt
    unnumbered_have (shape_and t ts) = (unnumbered_has t, unnumbered_have ts)

-- ---- at places

pub place_has : (D : List Decl) → Good D → (t : RegionTyp) (ss : List Step) → HasAll (declarations D) t → HasAll (declarations D) (place_type D t ss)
place_has D good t [] h = h
place_has D good t (s ∷ ss) h = place_has D good (behind D t s) ss (behind_is (λ l. l) D good t s h).has
