-- Types that are gone through one after another.
use Rattle.std.proofs.Common.{◌≡◌, ℕ, ◌+◌, ◌<◌, Bool, false, List, [], ◌∷◌, ◌++◌, map, length, drop, get_or, refl, sym}
use Rattle.std.proofs.Common.{ap, ◌∙◌}
use Rattle.rx_typed.specs.declared.declarations.Polarity.{Polarity}
use Rattle.rx_typed.specs.declared.declarations.VariantDecl.{VariantDecl}
use Rattle.rx_typed.specs.Regions.{RegionTyp, regions_of, region-Ty, region_variants}
use Rattle.rx_typed_declarations.specs.Variance.{fix_in, fix_among}
use Rattle.rx_typed_declarations.proofs.ItemLemmas.{at_next}

fix_among_append : (V : List (List Polarity)) (u : Bool) (ps : List Polarity) (ts us : List RegionTyp)
    → fix_among V u ps (regions_of (ts ++ us)) ≡ fix_among V u (fix_among V u ps (regions_of ts)) (regions_of us)
fix_among_append V u ps [] us = refl
fix_among_append V u ps (t ∷ ts) us = fix_among_append V u (fix_in V u ps t) ts us

abbrev pub fixed_variants : List (List Polarity) → List Polarity → List VariantDecl → List Polarity
fixed_variants V ps vs = fix_among V false ps (regions_of (region_variants vs))

pub fixed_variants_more : (V : List (List Polarity)) (vs : List VariantDecl) (i : ℕ) (v : VariantDecl)
    (old new : List Polarity) → i < length vs → v ≡ get_or vs i v
    → new ≡ fix_among V false old (regions_of (map region-Ty v.parts))
    → fixed_variants V new (drop (i + 1) vs) ≡ fixed_variants V old (drop i vs)
fixed_variants_more V vs i v old new less is new_is =
    let rest = drop (i + 1) vs in
    ap (λ ps. fixed_variants V ps rest) new_is
    ∙ sym (fix_among_append V false old (map region-Ty v.parts) (region_variants rest))
    ∙ sym (at_next (fixed_variants V old) vs i v less is)
