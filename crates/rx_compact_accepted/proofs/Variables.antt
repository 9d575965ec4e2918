-- The types of a function's variables by the new numbers: of its parameters and of what its `let`s write these, of others all open.
use Rattle.std.proofs.Common.{◌≡◌, inl, inr, ℕ, suc, ◌==◌, Bool, true, false, if◌then◌else◌, List, [], ◌∷◌, map, Option, Some, None, option_map, refl, sym, ap, ◌∙◌}
use Rattle.rx_core.specs.declared.types.Ty.{Ty}
use Rattle.rx_typed.specs.Regions.{RegionTyp, RegionTyps, no_region, region_and, regions_of, region-Ty}
use Rattle.rx_typed.specs.Renaming.{unit_region, renamed, all_renamed}
use Rattle.rx_typed.specs.Tree as tree
use Rattle.rx_lower_lifetimes.specs.Values.{Open}
use Rattle.rx_lower_lifetimes.specs.Variables.{Written, parameter_type, written_type, told, raw_type, open_type, open_types}
use Rattle.rx_compact_accepted.specs.LetsUnder.{LetsUnder}
use Rattle.rx_compact_accepted.proofs.Types.{form, OpenUnder, AllUnder}

abbrev first_region : RegionTyps → RegionTyp
first_region no_region = unit_region
first_region (region_and t ts) = t

abbrev other_regions : RegionTyps → RegionTyps
other_regions no_region = no_region
other_regions (region_and t ts) = ts

abbrev first_type : List (Option RegionTyp) → Option RegionTyp
first_type [] = None
first_type (t ∷ ts) = t

abbrev other_types : List (Option RegionTyp) → List (Option RegionTyp)
other_types [] = []
other_types (t ∷ ts) = ts

abbrev or_unit : Option RegionTyp → RegionTyp
or_unit None = unit_region
or_unit (Some t) = t

raw_is : (o : Option Ty) → or_unit (option_map region-Ty o) ≡ raw_type o
raw_is None = refl
raw_is (Some t) = refl

no_such : (t : RegionTyp) (ts : RegionTyps) → no_region ≡ region_and t ts → ⊥
no_such t ts e = cc

no_more : (t : RegionTyp) (ts : RegionTyps) → region_and t ts ≡ no_region → ⊥
no_more t ts e = cc

none_such : (t : Option RegionTyp) (ts : List (Option RegionTyp)) → [] ≡ t ∷ ts → ⊥
none_such t ts e = cc

none_more : (t : Option RegionTyp) (ts : List (Option RegionTyp)) → t ∷ ts ≡ [] → ⊥
none_more t ts e = cc

module _ (own new_own : ℕ) (g : ℕ → ℕ) where
  abbrev TyUnder : Option Ty → Option Ty → Type 0
  TyUnder None None = Unit {0}
  TyUnder (Some t) (Some u) = region-Ty u ≡ renamed g (region-Ty t)
  TyUnder _ _ = ⊥

  abbrev RegionUnder : Option RegionTyp → Option RegionTyp → Type 0
  RegionUnder None None = Unit {0}
  RegionUnder (Some t) (Some u) = u ≡ renamed g t
  RegionUnder _ _ = ⊥

  parameter_under : (ps : List tree.Parameter) (ts us : List Ty) → regions_of (map region-Ty us) ≡ all_renamed g (regions_of (map region-Ty ts)) → (x : ℕ) → TyUnder (parameter_type ps ts x) (parameter_type ps us x)
  parameter_under [] ts us e x = tt
  parameter_under (p ∷ ps) [] [] e x = tt
  parameter_under (p ∷ ps) [] (u ∷ us) e x = absurd (no_more (region-Ty u) (regions_of (map region-Ty us)) e)
  parameter_under (p ∷ ps) (t ∷ ts) [] e x = absurd (no_such (renamed g (region-Ty t)) (all_renamed g (regions_of (map region-Ty ts))) e)
  parameter_under (p ∷ ps) (t ∷ ts) (u ∷ us) e x = by (p.variable == x) (parameter_under ps ts us (ap other_regions e) x)
    where
      by : (b : Bool) → TyUnder (parameter_type ps ts x) (parameter_type ps us x) → TyUnder (if b then Some t else parameter_type ps ts x) (if b then Some u else parameter_type ps us x)
      by true h = ap first_region e
      by false h = h

  written_under : (ws xs : List Written) → LetsUnder g ws xs → (x : ℕ) → RegionUnder (written_type ws x) (written_type xs x)
  written_under [] [] h x = tt
  written_under [] (y ∷ xs) h x = absurd h
  written_under (w ∷ ws) [] h x = absurd h
  written_under (w ∷ ws) (y ∷ xs) h x = either (y.variable == x) (w.variable == x) (ap (λ z. z == x) h.0.0) (written_under ws xs h.1 x)
    where
      either : (b c : Bool) → b ≡ c → RegionUnder (written_type ws x) (written_type xs x) → RegionUnder (if c then Some w.typ else written_type ws x) (if b then Some y.typ else written_type xs x)
      either true true e k = h.0.1
      either false false e k = k
      either true false e k = absurd (cc)
      either false true e k = absurd (cc)

  one_under : (o u : Option Ty) → TyUnder o u → (w x : Option RegionTyp) → RegionUnder w x → (r q : Option Ty) → raw_type q ≡ raw_type r → OpenUnder own new_own g (open_type own (told o w) r) (open_type new_own (told u x) q)
  one_under (Some t) (Some u) h w x k r q e = inl (refl, refl, h)
  one_under None None h (Some w) (Some x) k r q e = inl (refl, refl, k)
  one_under None None h None None k r q e = inr (refl, refl, ap form e)
  one_under None (Some u) h w x k r q e = absurd h
  one_under (Some t) None h w x k r q e = absurd h
  one_under None None h (Some w) None k r q e = absurd k
  one_under None None h None (Some x) k r q e = absurd k

  pub variables_under : (ps : List tree.Parameter) (ts us : List Ty) → regions_of (map region-Ty us) ≡ all_renamed g (regions_of (map region-Ty ts)) → (ws xs : List Written) → LetsUnder g ws xs
      → (n : ℕ) (rs qs : List (Option Ty)) → map (option_map region-Ty) qs ≡ map (option_map region-Ty) rs → AllUnder own new_own g (open_types own ps ts ws n rs) (open_types new_own ps us xs n qs)
  variables_under ps ts us e ws xs h n [] [] k = tt
  variables_under ps ts us e ws xs h n [] (q ∷ qs) k = absurd (none_more (option_map region-Ty q) (map (option_map region-Ty) qs) k)
  variables_under ps ts us e ws xs h n (r ∷ rs) [] k = absurd (none_such (option_map region-Ty r) (map (option_map region-Ty) rs) k)
  variables_under ps ts us e ws xs h n (r ∷ rs) (q ∷ qs) k = (
    one_under (parameter_type ps ts n) (parameter_type ps us n) (parameter_under ps ts us e n) (written_type ws n) (written_type xs n) (written_under ws xs h n) r q
        (sym (raw_is q) ∙ (ap or_unit (ap first_type k) ∙ raw_is r)),
    variables_under ps ts us e ws xs h (suc n) rs qs (ap other_types k),
  )
