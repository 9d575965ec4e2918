-- Lists of types and of lifetimes in the places of others, one by one.
use Rattle.std.proofs.Common.{◌≡◌, ℕ, ◌+◌, ◌<◌, List, [], ◌∷◌, ◌++◌, map, drop, length, get_or, refl, sym, ap, ◌∙◌}
use Rattle.std.proofs.lemmas.List.{append_assoc, at_drop_more}
use Rattle.rx_core.specs.declared.types.Bound.{Bound}
use Rattle.rx_core.specs.declared.types.Ty.{Ty}
use Rattle.rx_typed.specs.declared.declarations.Polarity.{Polarity}
use Rattle.rx_typed.specs.declared.declarations.VariantDecl.{VariantDecl}
use Rattle.rx_typed.specs.Regions.{RegionTyp, RegionTyps, no_region, region_and, regions_of, region-Ty, region_variants}
use Rattle.rx_typed_declarations.proofs.ItemLemmas.{at_next}
use Rattle.rx_region_outlives.specs.Implied.{implied_among}
use Rattle.rx_region_outlives.proofs.ImpliedLemmas.{among_append}
use Rattle.rx_region_outlives.specs.Related.{other_polarities, arguments, all_related, argument, first_related}

-- where none is wanted, nothing is asked
arguments_none : (p : Polarity) (vs : List Polarity) (ls : List ℕ) → [] ≡ arguments p vs ls []
arguments_none p vs [] = refl
arguments_none p vs (l ∷ ls) = refl

pub arguments_step : (p : Polarity) (vs : List Polarity) (l : ℕ) (ls ks : List ℕ)
    → arguments p vs (l ∷ ls) ks ≡ argument p vs l ks ++ arguments p (other_polarities vs) ls (drop 1 ks)
arguments_step p vs l ls [] = arguments_none p (other_polarities vs) ls
arguments_step p vs l ls (k ∷ ks) = refl

all_related_none : (V : ℕ → List Polarity) (p : Polarity) (ts : RegionTyps) → [] ≡ all_related V p ts no_region
all_related_none V p no_region = refl
all_related_none V p (region_and t ts) = refl

pub all_related_step : (V : ℕ → List Polarity) (p : Polarity) (t : RegionTyp) (ts : RegionTyps) (us : List Ty)
    → all_related V p (region_and t ts) (regions_of (map region-Ty us))
    ≡ first_related V p t (regions_of (map region-Ty us)) ++ all_related V p ts (regions_of (map region-Ty (drop 1 us)))
all_related_step V p t ts [] = all_related_none V p ts
all_related_step V p t ts (u ∷ us) = refl

-- the same within a loop
pub arguments_more : (p : Polarity) (vs : List Polarity) (ls ks : List ℕ) (i : ℕ) (old new : List Bound) → i < length ls
    → new ≡ old ++ argument p vs (get_or ls i 0) ks
    → new ++ arguments p (other_polarities vs) (drop (i + 1) ls) (drop 1 ks) ≡ old ++ arguments p vs (drop i ls) ks
arguments_more p vs ls ks i old new less is =
    let rest = arguments p (other_polarities vs) (drop (i + 1) ls) (drop 1 ks) in
    let first = argument p vs (get_or ls i 0) ks in
    ap (λ qs. qs ++ rest) is ∙ append_assoc old first rest
    ∙ ap (λ qs. old ++ qs) (sym (arguments_step p vs (get_or ls i 0) (drop (i + 1) ls) ks))
    ∙ ap (λ qs. old ++ qs) (sym (at_drop_more (λ (xs : List ℕ). arguments p vs xs ks) ls i 0 less))

pub all_related_more : (V : ℕ → List Polarity) (p : Polarity) (ts us : List Ty) (i : ℕ) (t : Ty) (old new : List Bound) → i < length ts
    → t ≡ get_or ts i t → new ≡ old ++ first_related V p (region-Ty t) (regions_of (map region-Ty us))
    → new ++ all_related V p (regions_of (map region-Ty (drop (i + 1) ts))) (regions_of (map region-Ty (drop 1 us)))
    ≡ old ++ all_related V p (regions_of (map region-Ty (drop i ts))) (regions_of (map region-Ty us))
all_related_more V p ts us i t old new less at is =
    let rest = all_related V p (regions_of (map region-Ty (drop (i + 1) ts))) (regions_of (map region-Ty (drop 1 us))) in
    let first = first_related V p (region-Ty t) (regions_of (map region-Ty us)) in
    ap (λ qs. qs ++ rest) is ∙ append_assoc old first rest
    ∙ ap (λ qs. old ++ qs) (sym (all_related_step V p (region-Ty t) (regions_of (map region-Ty (drop (i + 1) ts))) us))
    ∙ ap (λ qs. old ++ qs) (sym (at_next (λ (xs : List Ty). all_related V p (regions_of (map region-Ty xs)) (regions_of (map region-Ty us))) ts i t less at))

abbrev variants_of : (ℕ → List Bound) → List VariantDecl → List Bound
variants_of P vs = implied_among P (regions_of (region_variants vs))

pub variants_more : (P : ℕ → List Bound) (vs : List VariantDecl) (i : ℕ) (v : VariantDecl) (old new : List Bound) → i < length vs
    → v ≡ get_or vs i v → new ≡ old ++ implied_among P (regions_of (map region-Ty v.parts))
    → new ++ variants_of P (drop (i + 1) vs) ≡ old ++ variants_of P (drop i vs)
variants_more P vs i v old new less at is =
    let rest = variants_of P (drop (i + 1) vs) in
    let first = implied_among P (regions_of (map region-Ty v.parts)) in
    ap (λ qs. qs ++ rest) is ∙ append_assoc old first rest
    ∙ ap (λ qs. old ++ qs) (sym (among_append P (map region-Ty v.parts) (region_variants (drop (i + 1) vs))))
    ∙ ap (λ qs. old ++ qs) (sym (at_next (variants_of P) vs i v less at))
