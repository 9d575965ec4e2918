-- A type of the code is told by what it is with its lifetimes.
use Rattle.std.proofs.Common.{◌≡◌, true, false, List, [], ◌∷◌, map, refl, sym, ap, ◌∙◌, subst}
use Rattle.rx_core.specs.declared.types.Ty.{Ty, Ty-F, fold-roll-Ty, ind-Ty, roll-Ty, map-Ty}
use Rattle.rx_core.specs.declared.types.Ty.TheOpen as form
use Rattle.rx_core.specs.declared.types.Ty.TheVariants as ty
use Rattle.rx_typed.specs.Regions.{RegionTyp, region_integer, region_boolean, region_tuple, region_reference, region_named}
use Rattle.rx_typed.specs.Regions.{RegionTyps, no_region, region_and, regions_of, region-Ty, region_step}

-- the type of the code
abbrev mutual
  coded : RegionTyp → Ty
  coded (region_integer k) = ty.Int k
  coded region_boolean = ty.Bool
  coded (region_tuple ts) = ty.Tuple (all_coded ts)
  coded (region_reference false l t) = ty.Shared l (coded t)
  coded (region_reference true l t) = ty.Mut l (coded t)
  coded (region_named i ls) = ty.Adt i ls

  all_coded : RegionTyps → List Ty
  all_coded no_region = []
  all_coded (region_and t ts) = coded t ∷ all_coded ts

abbrev IsCoded : Ty → Type 0
IsCoded t = coded (region-Ty t) ≡ t

parts_coded : (ts : List ((t : Ty) × IsCoded t))
    → all_coded (regions_of (map region-Ty (map (λ e. e.0) ts))) ≡ map (λ e. e.0) ts
parts_coded [] = refl
parts_coded (e ∷ ts) = (λ i. e.1 i ∷ parts_coded ts i)

step_coded : (y : Ty-F ((t : Ty) × IsCoded t))
    → coded (region_step (map-Ty Ty RegionTyp region-Ty (map-Ty ((t : Ty) × IsCoded t) Ty (λ e. e.0) y)))
    ≡ roll-Ty (map-Ty ((t : Ty) × IsCoded t) Ty (λ e. e.0) y)
step_coded (form.Int k) = sym (ty.rolls-Int k)
step_coded form.Bool = sym ty.rolls-Bool
step_coded (form.Tuple ts) = ap ty.Tuple (parts_coded ts) ∙ sym (ty.rolls-Tuple (map (λ e. e.0) ts))
step_coded (form.Shared l e) = ap (λ t. ty.Shared l t) e.1 ∙ sym (ty.rolls-Shared l e.0)
step_coded (form.Mut l e) = ap (λ t. ty.Mut l t) e.1 ∙ sym (ty.rolls-Mut l e.0)
step_coded (form.Adt i ls) = sym (ty.rolls-Adt i ls)

rolled : (x : Ty-F Ty) → coded (region_step (map-Ty Ty RegionTyp region-Ty x)) ≡ roll-Ty x → IsCoded (roll-Ty x)
unfolding region-Ty
rolled x h = ap coded (fold-roll-Ty RegionTyp region_step x) ∙ h

is_coded : (t : Ty) → coded (region-Ty t) ≡ t
is_coded =
    ind-Ty IsCoded (λ x y is. subst (λ z. IsCoded (roll-Ty z)) is
    (rolled (map-Ty ((t : Ty) × IsCoded t) Ty (λ e. e.0) y) (step_coded y)))

pub one_type : (t u : Ty) → region-Ty t ≡ region-Ty u → t ≡ u
one_type t u e = sym (is_coded t) ∙ ap coded e ∙ is_coded u
