-- What private functions do: lists of pairs by their first part and the others.
use Rattle.std.specs.Prelude.{ℕ, suc, Bool, true, false, if◌then◌else◌, List, [], ◌∷◌, map, slice_get, get_or}
use Rattle.rx_core.specs.declared.types.Bound.{Bound}
use Rattle.rx_core.specs.declared.types.Step.{Step}
use Rattle.rx_core.specs.declared.types.Step.TheVariants as step
use Rattle.rx_typed.specs.declared.declarations.Decl.{Decl}
use Rattle.rx_typed.specs.Regions.{RegionTyp, region-Ty, RegionTyps, no_region, regions_of, region_fields}
use Rattle.rx_typed.specs.Tree.{Temporary, Making, tuple, struct, variant_of}
use Rattle.rx_typed.specs.declared.renaming.Arguments.{Arguments}
use Rattle.rx_typed.specs.Places.{fields_of, variant_of as parts_of_variant}
use Rattle.rx_typed.specs.Renaming.{unit_region}
use Rattle.rx_lower_lifetimes.specs.Values.{same}
use Rattle.rx_lower_lifetimes.specs.Numbered.{Own}
use Rattle.rx_lower_walks.specs.Actions.{Action}
use Rattle.rx_region.specs.Constraints.{Context, flows, held, through, tuple_parts, lifetimes_of, asks, is_among}
use Rattle.rx_region_outlives.specs.Implied.{implied_in}
use Rattle.rx_region.specs.declared.made.Parts.{Parts}
use Rattle.rx_region.specs.declared.made.Parts.TheVariants as parts

-- where a temporary stands; behind all where it is none of them
abbrev pub place_among : List Temporary → Temporary → ℕ
place_among [] t = 0
place_among (s ∷ ss) t = if same s t then 0 else suc (place_among ss t)

-- a value where the first of these is wanted, or the other way round
abbrev pub first_flow : Context → RegionTyp → List Temporary → List Bound
first_flow C u [] = []
first_flow C u (t ∷ ts) = flows C (held C t) u

abbrev pub first_ask : Context → Action → List Own → List Bound
first_ask C a [] = []
first_ask C a (o ∷ os) = asks C a.act o

abbrev pub is_shared : Step → Bool
is_shared (step.Deref false) = true
is_shared _ = false

-- a step of a borrow's place, in front of others
abbrev pub through_step : RegionTyp → ℕ → Step → List Step → List Bound
through_step t r (step.Deref k) ss = through t r ss
through_step t r _ ss = []

-- a type that is formed, by its number
abbrev pub formed_one : Context → ℕ → RegionTyp → List Bound
formed_one C x t = if is_among x C.lifetimes.params then [] else implied_in C.implied t

-- the type of a parameter, by its variable
abbrev pub parameter_asks : Context → ℕ → List Bound
parameter_asks C x = implied_in C.implied (get_or C.lifetimes.types x unit_region)

-- ---- the parts of what is made: those that are declared, and what stands in place of their lifetimes

abbrev pub declared_parts : List Decl → Making → RegionTyp → RegionTyps
declared_parts D tuple t = tuple_parts t
declared_parts D (struct i) t = fields_of (slice_get D i)
declared_parts D (variant_of i v) t = parts_of_variant (slice_get D i) v
declared_parts D _ t = no_region

abbrev pub arguments_for : Making → RegionTyp → Arguments
arguments_for (struct i) t = record { own = false; list = lifetimes_of t }
arguments_for (variant_of i v) t = record { own = false; list = lifetimes_of t }
arguments_for _ t = record { own = true; list = [] }

abbrev pub regions_in : Parts → RegionTyps
regions_in (parts.Types ts) = regions_of (map region-Ty ts.now)
regions_in (parts.Fields fs) = regions_of (region_fields fs.now)
