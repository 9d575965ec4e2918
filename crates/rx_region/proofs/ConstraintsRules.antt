-- Equations, as the tactics take them.
use Rattle.std.proofs.Common.{◌≡◌, ℕ, zero, suc, true, false, List, [], ◌∷◌, ◌++◌, refl}
use Rattle.std.proofs.lemmas.List.{append-nil, append_assoc}
use Rattle.rx_core.specs.declared.types.Bound.{Bound}
use Rattle.rx_core.specs.declared.types.Step.{Step}
use Rattle.rx_core.specs.declared.types.Step.TheVariants as step
use Rattle.rx_typed.specs.declared.declarations.Decl.{Decl}
use Rattle.rx_typed.specs.declared.declarations.Polarity.{Polarity}
use Rattle.rx_typed.specs.Regions.{RegionTyp, region_integer, region_boolean, region_tuple, region_reference, region_named, RegionTyps, no_region, region_and}
use Rattle.rx_region_outlives.specs.Related.{related}
use Rattle.rx_typed.specs.Renaming.{renamed, all_renamed}
use Rattle.rx_typed.specs.Places.{behind, part_at}
use Rattle.rx_region.specs.Constraints.{reborrows}
use Rattle.rx_region.specs.Steps.{through_step}

-- ---- lists that are appended one after another

pub bounds_none : (xs : List Bound) → xs ++ [] ≡ xs
bounds_none xs = append-nil xs

pub bounds_then : (xs ys zs : List Bound) → (xs ++ ys) ++ zs ≡ xs ++ (ys ++ zs)
bounds_then xs ys zs = append_assoc xs ys zs

pub ruleset appending = (bounds_none, bounds_then)

-- ---- the unit asks nothing, and nothing is asked where it is wanted

pub to_unit : (V : ℕ → List Polarity) (p : Polarity) (t : RegionTyp) → related V p t (region_tuple no_region) ≡ []
to_unit V p (region_integer k) = refl
to_unit V p region_boolean = refl
to_unit V p (region_tuple no_region) = refl
to_unit V p (region_tuple (region_and t ts)) = refl
to_unit V p (region_reference true l t) = refl
to_unit V p (region_reference false l t) = refl
to_unit V p (region_named i ls) = refl

pub from_unit : (V : ℕ → List Polarity) (p : Polarity) (t : RegionTyp) → related V p (region_tuple no_region) t ≡ []
from_unit V p (region_integer k) = refl
from_unit V p region_boolean = refl
from_unit V p (region_tuple no_region) = refl
from_unit V p (region_tuple (region_and t ts)) = refl
from_unit V p (region_reference true l t) = refl
from_unit V p (region_reference false l t) = refl
from_unit V p (region_named i ls) = refl

pub ruleset flow_rules = (bounds_none, to_unit, from_unit)

-- ---- steps of a borrow's place

pub reborrows_step : (D : List Decl) (t : RegionTyp) (r : ℕ) (s : Step) (ss : List Step)
    → reborrows D t r (s ∷ ss) ≡ through_step t r s ss ++ reborrows D (behind D t s) r ss
reborrows_step D t r (step.Deref k) ss = refl
reborrows_step D t r (step.Field i) ss = refl
reborrows_step D t r (step.Variant v) ss = refl

pub nothing_through : (D : List Decl) (r : ℕ) (ss : List Step) → reborrows D (region_tuple no_region) r ss ≡ []
nothing_through D r [] = refl
nothing_through D r (step.Deref k ∷ ss) = nothing_through D r ss
nothing_through D r (step.Field i ∷ ss) = nothing_through D r ss
nothing_through D r (step.Variant v ∷ ss) = nothing_through D r ss

pub ruleset reborrow_rules = (bounds_none, reborrows_step, nothing_through)

-- ---- a part of renamed types

pub part_of_renamed : (f : ℕ → ℕ) (ts : RegionTyps) (n : ℕ) → part_at (all_renamed f ts) n ≡ renamed f (part_at ts n)
part_of_renamed f no_region n = refl
part_of_renamed f (region_and t ts) zero = refl
part_of_renamed f (region_and t ts) (suc n) = part_of_renamed f ts n

pub ruleset part_rules = (bounds_none, part_of_renamed)
