-- Loops over a list beside another.
use Rattle.std.proofs.Common.{◌≡◌, ℕ, ◌+◌, ◌<◌, List, [], ◌∷◌, ◌++◌, map, drop, length, get_or, zero, suc, arith, refl, sym, ap, ◌∙◌}
use Rattle.std.proofs.lemmas.List.{append_assoc}
use Rattle.rx_core.specs.declared.types.Bound.{Bound}
use Rattle.rx_core.specs.declared.types.Ty.{Ty}
use Rattle.rx_typed.specs.Regions.{RegionTyp, RegionTyps, no_region, region_and, regions_of, region-Ty}
use Rattle.rx_typed_declarations.proofs.ItemLemmas.{at_next}
use Rattle.rx_lower_walks.specs.Actions.{Action}
use Rattle.rx_lower_walks.specs.Text.{actions_of}
use Rattle.rx_lower_walks.specs.declared.actions.Temporary.{Temporary}
use Rattle.rx_lower_walks.specs.PlainFlow.{plain-Temporary}
use Rattle.rx_lower_walks.specs.declared.site.Site.{Site}
use Rattle.rx_lower_walks.specs.PlainSite.{plain-Site}
use Rattle.rx_lower_lifetimes.specs.declared.numbering.Own.{Own}
use Rattle.rx_lower_lifetimes.specs.PlainOwn.{plain-Own}
use Rattle.rx_typed.specs.Places.{part_at}
use Rattle.rx_region.specs.Constraints.{Context, parameters_flow, parts_flow, all_ask, formed}
use Rattle.rx_region.specs.Steps.{first_flow, first_ask, formed_one}

step_more : {A : Type 0} (F : List A → List Bound) (xs : List A) (i : ℕ) (x : A) (first rest old new : List Bound) → i < length xs → x ≡ get_or xs i x
    → new ≡ old ++ first → F (x ∷ drop (i + 1) xs) ≡ first ++ rest → new ++ rest ≡ old ++ F (drop i xs)
step_more F xs i x first rest old new less at is step =
    ap (λ qs. qs ++ rest) is ∙ append_assoc old first rest ∙ ap (λ qs. old ++ qs) (sym step) ∙ ap (λ qs. old ++ qs) (sym (at_next F xs i x less at))

-- ---- arguments where parameters are wanted

parameters_none : (C : Context) (us : RegionTyps) → [] ≡ parameters_flow C us []
parameters_none C no_region = refl
parameters_none C (region_and u us) = refl

parameters_step : (C : Context) (u : RegionTyp) (us : RegionTyps) (ts : List Temporary) → parameters_flow C (region_and u us) (map plain-Temporary ts)
    ≡ first_flow C u (map plain-Temporary ts) ++ parameters_flow C us (map plain-Temporary (drop 1 ts))
parameters_step C u us [] = parameters_none C us
parameters_step C u us (t ∷ ts) = refl

pub parameters_more : (C : Context) (us : List Ty) (ts : List Temporary) (i : ℕ) (u : Ty) (old new : List Bound) → i < length us → u ≡ get_or us i u
    → new ≡ old ++ first_flow C (region-Ty u) (map plain-Temporary ts)
    → new ++ parameters_flow C (regions_of (map region-Ty (drop (i + 1) us))) (map plain-Temporary (drop 1 ts))
    ≡ old ++ parameters_flow C (regions_of (map region-Ty (drop i us))) (map plain-Temporary ts)
parameters_more C us ts i u old new less at is =
    step_more (λ l. parameters_flow C (regions_of (map region-Ty l)) (map plain-Temporary ts)) us i u (first_flow C (region-Ty u) (map plain-Temporary ts))
    (parameters_flow C (regions_of (map region-Ty (drop (i + 1) us))) (map plain-Temporary (drop 1 ts))) old new less at is
    (parameters_step C (region-Ty u) (regions_of (map region-Ty (drop (i + 1) us))) ts)

-- ---- operands where parts are wanted

parts_none : (C : Context) (us : RegionTyps) (is : List ℕ) → [] ≡ parts_flow C us is []
parts_none C us [] = refl
parts_none C us (i ∷ is) = refl

parts_step : (C : Context) (us : RegionTyps) (i : ℕ) (is : List ℕ) (ts : List Temporary) → parts_flow C us (i ∷ is) (map plain-Temporary ts)
    ≡ first_flow C (part_at us i) (map plain-Temporary ts) ++ parts_flow C us is (map plain-Temporary (drop 1 ts))
parts_step C us i is [] = parts_none C us is
parts_step C us i is (t ∷ ts) = refl

pub number_there : (is : List ℕ) (i d : ℕ) → i < length is → d ≡ get_or is i 0 → d ≡ get_or is i d
number_there [] i d h e = absurd (omega (arith, h))
number_there (n ∷ is) zero d h e = e
number_there (n ∷ is) (suc i) d h e = number_there is i d (omega (arith, h)) e

pub parts_more : (C : Context) (us : RegionTyps) (is : List ℕ) (ts : List Temporary) (i n : ℕ) (old new : List Bound) → i < length is → n ≡ get_or is i n
    → new ≡ old ++ first_flow C (part_at us n) (map plain-Temporary ts)
    → new ++ parts_flow C us (drop (i + 1) is) (map plain-Temporary (drop 1 ts)) ≡ old ++ parts_flow C us (drop i is) (map plain-Temporary ts)
parts_more C us is ts i n old new less at e =
    step_more (λ l. parts_flow C us l (map plain-Temporary ts)) is i n (first_flow C (part_at us n) (map plain-Temporary ts))
    (parts_flow C us (drop (i + 1) is) (map plain-Temporary (drop 1 ts))) old new less at e (parts_step C us n (drop (i + 1) is) ts)

-- ---- sites, with what each has of its own

asks_none : (C : Context) (us : List Action) → [] ≡ all_ask C us []
asks_none C [] = refl
asks_none C (a ∷ us) = refl

asks_step : (C : Context) (a : Action) (us : List Action) (os : List Own) → all_ask C (a ∷ us) (map plain-Own os)
    ≡ first_ask C a (map plain-Own os) ++ all_ask C us (map plain-Own (drop 1 os))
asks_step C a us [] = asks_none C us
asks_step C a us (o ∷ os) = refl

pub asks_more : (C : Context) (g : List Site) (os : List Own) (i : ℕ) (s : Site) (old new : List Bound) → i < length g → s ≡ get_or g i s
    → new ≡ old ++ first_ask C (plain-Site s).action (map plain-Own os)
    → new ++ all_ask C (actions_of (map plain-Site (drop (i + 1) g))) (map plain-Own (drop 1 os)) ≡ old ++ all_ask C (actions_of (map plain-Site (drop i g))) (map plain-Own os)
asks_more C g os i s old new less at is =
    step_more (λ l. all_ask C (actions_of (map plain-Site l)) (map plain-Own os)) g i s (first_ask C (plain-Site s).action (map plain-Own os))
    (all_ask C (actions_of (map plain-Site (drop (i + 1) g))) (map plain-Own (drop 1 os))) old new less at is
    (asks_step C (plain-Site s).action (actions_of (map plain-Site (drop (i + 1) g))) os)

-- ---- types that are formed

pub formed_more : (C : Context) (ts : List Ty) (i : ℕ) (t : Ty) (old new : List Bound) → i < length ts → t ≡ get_or ts i t
    → new ≡ old ++ formed_one C i (region-Ty t)
    → new ++ formed C (i + 1) (map region-Ty (drop (i + 1) ts)) ≡ old ++ formed C i (map region-Ty (drop i ts))
formed_more C ts i t old new less at is =
    step_more (λ l. formed C i (map region-Ty l)) ts i t (formed_one C i (region-Ty t)) (formed C (i + 1) (map region-Ty (drop (i + 1) ts))) old new less at is refl
