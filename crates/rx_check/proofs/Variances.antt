-- What a type asks in the place of another is told by the polarities of lifetimes, however they are recorded.
use Rattle.std.proofs.Common.{◌≡◌, ℕ, suc, true, false, List, [], ◌∷◌, ◌++◌, refl, sym, ap, ◌∙◌, subst}
use Rattle.rx_core.specs.declared.types.Bound.{Bound}
use Rattle.rx_typed.specs.declared.declarations.Decl.{Decl}
use Rattle.rx_typed.specs.declared.declarations.Polarity.{Polarity}
use Rattle.rx_typed.specs.declared.declarations.Polarity.TheVariants.{Co, Inv}
use Rattle.rx_typed.specs.Regions.{RegionTyp, region_integer, region_boolean, region_tuple, region_reference, region_named, RegionTyps, no_region, region_and, regions}
use Rattle.rx_typed_declarations.specs.Variance.{polarity, TellsOf, Invariant}
use Rattle.rx_region_outlives.specs.Related.{in_place, within, first_polarity, other_polarities, arguments, related, all_related, subtypes}

-- lists that tell the same polarities
abbrev pub Agree : List Polarity → List Polarity → Type 0
Agree vs ws = (k : ℕ) → polarity vs k ≡ polarity ws k

one_polarity : (p q : Polarity) → (p ≡ Inv → q ≡ Inv) → (q ≡ Inv → p ≡ Inv) → p ≡ q
one_polarity Co Co f g = refl
one_polarity Co Inv f g = g refl
one_polarity Inv Co f g = sym (f refl)
one_polarity Inv Inv f g = refl

-- two lists that have the polarities of one item's lifetimes
pub tell_same : (D E : List Decl) → regions D ≡ regions E → (i : ℕ) (vs ws : List Polarity) → TellsOf D i vs → TellsOf E i ws → Agree vs ws
tell_same D E held i vs ws a b k =
    one_polarity (polarity vs k) (polarity ws k)
    (λ h. (b k).1 (subst (λ (H : List (List RegionTyp)). Invariant H i k) held ((a k).0 h)))
    (λ h. (a k).1 (subst (λ (H : List (List RegionTyp)). Invariant H i k) (sym held) ((b k).0 h)))

first_is : (vs : List Polarity) → first_polarity vs ≡ polarity vs 0
first_is [] = refl
first_is (v ∷ vs) = refl

other_is : (vs : List Polarity) (k : ℕ) → polarity (other_polarities vs) k ≡ polarity vs (suc k)
other_is [] k = refl
other_is (v ∷ vs) k = refl

arguments_agree : (p : Polarity) (vs ws : List Polarity) → Agree vs ws → (ls ks : List ℕ) → arguments p vs ls ks ≡ arguments p ws ls ks
arguments_agree p vs ws a [] ks = refl
arguments_agree p vs ws a (l ∷ ls) [] = refl
arguments_agree p vs ws a (l ∷ ls) (k ∷ ks) =
    let first : first_polarity vs ≡ first_polarity ws = first_is vs ∙ (a 0 ∙ sym (first_is ws)) in
    let others : arguments p (other_polarities vs) ls ks ≡ arguments p (other_polarities ws) ls ks =
    arguments_agree p (other_polarities vs) (other_polarities ws) (λ n. other_is vs n ∙ (a (suc n) ∙ sym (other_is ws n))) ls ks in
    λ j. in_place (within p (first j)) l k ++ others j

module _ (V W : ℕ → List Polarity) (agree : (i : ℕ) → Agree (V i) (W i)) where
  mutual
    related_agree : (p : Polarity) (t u : RegionTyp) → related V p t u ≡ related W p t u
    related_agree p (region_integer k) u = refl
    related_agree p region_boolean u = refl
    related_agree p (region_tuple ts) (region_tuple us) = all_agree p ts us
    related_agree p (region_tuple ts) (region_integer k) = refl
    related_agree p (region_tuple ts) region_boolean = refl
    related_agree p (region_tuple ts) (region_reference m k u) = refl
    related_agree p (region_tuple ts) (region_named j ks) = refl
    related_agree p (region_reference false l t) (region_reference false k u) = ap (λ (ps : List Bound). in_place p l k ++ ps) (related_agree p t u)
    related_agree p (region_reference false l t) (region_reference true k u) = refl
    related_agree p (region_reference false l t) (region_integer k) = refl
    related_agree p (region_reference false l t) region_boolean = refl
    related_agree p (region_reference false l t) (region_tuple us) = refl
    related_agree p (region_reference false l t) (region_named j ks) = refl
    related_agree p (region_reference true l t) (region_reference true k u) = ap (λ (ps : List Bound). in_place p l k ++ ps) (related_agree Inv t u)
    related_agree p (region_reference true l t) (region_reference false k u) = refl
    related_agree p (region_reference true l t) (region_integer k) = refl
    related_agree p (region_reference true l t) region_boolean = refl
    related_agree p (region_reference true l t) (region_tuple us) = refl
    related_agree p (region_reference true l t) (region_named j ks) = refl
    related_agree p (region_named i ls) (region_named j ks) = arguments_agree p (V i) (W i) (agree i) ls ks
    related_agree p (region_named i ls) (region_integer k) = refl
    related_agree p (region_named i ls) region_boolean = refl
    related_agree p (region_named i ls) (region_tuple us) = refl
    related_agree p (region_named i ls) (region_reference m k u) = refl

    all_agree : (p : Polarity) (ts us : RegionTyps) → all_related V p ts us ≡ all_related W p ts us
    all_agree p no_region us = refl
    all_agree p (region_and t ts) no_region = refl
    all_agree p (region_and t ts) (region_and u us) = λ j. related_agree p t u j ++ all_agree p ts us j

  pub subtypes_agree : (t u : RegionTyp) → subtypes V t u ≡ subtypes W t u
  subtypes_agree t u = related_agree Co t u
