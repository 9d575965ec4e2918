-- A type is told by its form and its lifetimes in order: so where these are those of another under other numbers, so is the type.
use Rattle.std.proofs.Common.{◌≡◌, ℕ, List, [], ◌∷◌, ◌++◌, map, refl, sym, ap, ap₂, ◌∙◌, append_assoc}
use Rattle.std.proofs.lemmas.List.{map-append}
use Rattle.rx_typed.specs.Types.{tuple_of, reference, shape_and}
use Rattle.rx_typed.specs.Regions.{RegionTyp, region_integer, region_boolean, region_tuple, region_reference, region_named, RegionTyps, no_region, region_and, erased, all_erased, lifetimes_in, lifetimes_among}
use Rattle.rx_typed.specs.Renaming.{renamed, all_renamed}
use Rattle.rx_compact_types.specs.Positions.{no_number}

-- what is left of the numbers is given too
abbrev fill_list : List ℕ → List ℕ → List ℕ × List ℕ
fill_list [] ns = ([], ns)
fill_list (l ∷ ls) [] = ([], [])
fill_list (l ∷ ls) (n ∷ ns) = (n ∷ (fill_list ls ns).0, (fill_list ls ns).1)

abbrev head : List ℕ → ℕ
head [] = 0
head (n ∷ ns) = n

abbrev rest : List ℕ → List ℕ
rest [] = []
rest (n ∷ ns) = ns

abbrev mutual
  fill : RegionTyp → List ℕ → RegionTyp × List ℕ
  fill (region_integer k) ns = (region_integer k, ns)
  fill region_boolean ns = (region_boolean, ns)
  fill (region_tuple ts) ns = (region_tuple (fill_all ts ns).0, (fill_all ts ns).1)
  fill (region_reference m l t) ns = (region_reference m (head ns) (fill t (rest ns)).0, (fill t (rest ns)).1)
  fill (region_named i ls) ns = (region_named i (fill_list ls ns).0, (fill_list ls ns).1)

  fill_all : RegionTyps → List ℕ → RegionTyps × List ℕ
  fill_all no_region ns = (no_region, ns)
  fill_all (region_and t ts) ns = (region_and (fill t ns).0 (fill_all ts (fill t ns).1).0, (fill_all ts (fill t ns).1).1)

list_filled : (ls ms : List ℕ) → fill_list (map no_number ls) (ls ++ ms) ≡ (ls, ms)
list_filled [] ms = refl
list_filled (l ∷ ls) ms = ap (λ (x : List ℕ × List ℕ). (l ∷ x.0, x.1)) (list_filled ls ms)

mutual
  filled : (t : RegionTyp) (ms : List ℕ) → fill (renamed no_number t) (lifetimes_in t ++ ms) ≡ (t, ms)
  filled (region_integer k) ms = refl
  filled region_boolean ms = refl
  filled (region_tuple ts) ms = ap (λ (x : RegionTyps × List ℕ). (region_tuple x.0, x.1)) (all_filled ts ms)
  filled (region_reference m l t) ms = ap (λ (x : RegionTyp × List ℕ). (region_reference m l x.0, x.1)) (filled t ms)
  filled (region_named i ls) ms = ap (λ (x : List ℕ × List ℕ). (region_named i x.0, x.1)) (list_filled ls ms)

  all_filled : (ts : RegionTyps) (ms : List ℕ) → fill_all (all_renamed no_number ts) (lifetimes_among ts ++ ms) ≡ (ts, ms)
  all_filled no_region ms = refl
  all_filled (region_and t ts) ms =
      ap (λ ns. fill_all (all_renamed no_number (region_and t ts)) ns) (append_assoc (lifetimes_in t) (lifetimes_among ts) ms)
      ∙ (ap (λ (x : RegionTyp × List ℕ). (region_and x.0 (fill_all (all_renamed no_number ts) x.1).0, (fill_all (all_renamed no_number ts) x.1).1)) (filled t (lifetimes_among ts ++ ms))
      ∙ ap (λ (x : RegionTyps × List ℕ). (region_and t x.0, x.1)) (all_filled ts ms))

module _ (f : ℕ → ℕ) where
  list_unnumbered : (ls : List ℕ) → map no_number (map f ls) ≡ map no_number ls
  list_unnumbered [] = refl
  list_unnumbered (l ∷ ls) = ap (λ ns. 0 ∷ ns) (list_unnumbered ls)

  mutual
    pub unnumbered_same : (t : RegionTyp) → renamed no_number (renamed f t) ≡ renamed no_number t
    unnumbered_same (region_integer k) = refl
    unnumbered_same region_boolean = refl
    unnumbered_same (region_tuple ts) = ap region_tuple (all_unnumbered_same ts)
    unnumbered_same (region_reference m l t) = ap (region_reference m 0) (unnumbered_same t)
    unnumbered_same (region_named i ls) = ap (region_named i) (list_unnumbered ls)

    all_unnumbered_same : (ts : RegionTyps) → all_renamed no_number (all_renamed f ts) ≡ all_renamed no_number ts
    all_unnumbered_same no_region = refl
    all_unnumbered_same (region_and t ts) = ap₂ region_and (unnumbered_same t) (all_unnumbered_same ts)

  mutual
    pub lifetimes_renamed : (t : RegionTyp) → lifetimes_in (renamed f t) ≡ map f (lifetimes_in t)
    lifetimes_renamed (region_integer k) = refl
    lifetimes_renamed region_boolean = refl
    lifetimes_renamed (region_tuple ts) = all_lifetimes_renamed ts
    lifetimes_renamed (region_reference m l t) = ap (λ ns. f l ∷ ns) (lifetimes_renamed t)
    lifetimes_renamed (region_named i ls) = refl

    all_lifetimes_renamed : (ts : RegionTyps) → lifetimes_among (all_renamed f ts) ≡ map f (lifetimes_among ts)
    all_lifetimes_renamed no_region = refl
    all_lifetimes_renamed (region_and t ts) = ap₂ (λ a b. a ++ b) (lifetimes_renamed t) (all_lifetimes_renamed ts) ∙ sym (map-append f (lifetimes_in t) (lifetimes_among ts))

  pub renamed_by_form : (a : RegionTyp) (b : RegionTyp) → renamed no_number b ≡ renamed no_number a → lifetimes_in b ≡ map f (lifetimes_in a) → b ≡ renamed f a
  renamed_by_form a b e g =
      sym (ap (λ (x : RegionTyp × List ℕ). x.0) (filled b []))
      ∙ (ap₂ (λ t ns. (fill t (ns ++ [])).0) (e ∙ sym (unnumbered_same a)) (g ∙ sym (lifetimes_renamed a))
      ∙ ap (λ (x : RegionTyp × List ℕ). x.0) (filled (renamed f a) []))

  pub all_renamed_by_form : (as' : RegionTyps) (bs : RegionTyps) → all_renamed no_number bs ≡ all_renamed no_number as' → lifetimes_among bs ≡ map f (lifetimes_among as') → bs ≡ all_renamed f as'
  all_renamed_by_form as' bs e g =
      sym (ap (λ (x : RegionTyps × List ℕ). x.0) (all_filled bs []))
      ∙ (ap₂ (λ t ns. (fill_all t (ns ++ [])).0) (e ∙ sym (all_unnumbered_same as')) (g ∙ sym (all_lifetimes_renamed as'))
      ∙ ap (λ (x : RegionTyps × List ℕ). x.0) (all_filled (all_renamed f as') []))

  -- and without lifetimes it is the same
  mutual
    pub erased_same : (t : RegionTyp) → erased (renamed f t) ≡ erased t
    erased_same (region_integer k) = refl
    erased_same region_boolean = refl
    erased_same (region_tuple ts) = ap tuple_of (all_erased_same ts)
    erased_same (region_reference m l t) = ap (reference m) (erased_same t)
    erased_same (region_named i ls) = refl

    pub all_erased_same : (ts : RegionTyps) → all_erased (all_renamed f ts) ≡ all_erased ts
    all_erased_same no_region = refl
    all_erased_same (region_and t ts) = ap₂ shape_and (erased_same t) (all_erased_same ts)

-- one renaming behind another
module _ (f g : ℕ → ℕ) where
  list_twice : (ls : List ℕ) → map g (map f ls) ≡ map (λ l. g (f l)) ls
  list_twice [] = refl
  list_twice (l ∷ ls) = ap (λ ns. g (f l) ∷ ns) (list_twice ls)

  mutual
    pub renamed_twice : (t : RegionTyp) → renamed g (renamed f t) ≡ renamed (λ l. g (f l)) t
    renamed_twice (region_integer k) = refl
    renamed_twice region_boolean = refl
    renamed_twice (region_tuple ts) = ap region_tuple (all_renamed_twice ts)
    renamed_twice (region_reference m l t) = ap (region_reference m (g (f l))) (renamed_twice t)
    renamed_twice (region_named i ls) = ap (region_named i) (list_twice ls)

    pub all_renamed_twice : (ts : RegionTyps) → all_renamed g (all_renamed f ts) ≡ all_renamed (λ l. g (f l)) ts
    all_renamed_twice no_region = refl
    all_renamed_twice (region_and t ts) = ap₂ region_and (renamed_twice t) (all_renamed_twice ts)
