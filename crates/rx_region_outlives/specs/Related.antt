-- What one type asks of another's lifetimes where a value of the one serves as the other (Rust Reference, "Subtyping and
-- Variance"; RFC 2094, "Subtyping").
use Rattle.std.specs.Prelude.{ℕ, Bool, true, false, List, [], ◌∷◌, ◌++◌}
use Rattle.rx_core.specs.declared.types.Bound.{Bound}
use Rattle.rx_typed.specs.declared.declarations.Polarity.{Polarity}
use Rattle.rx_typed.specs.declared.declarations.Polarity.TheVariants.{Co, Inv}
use Rattle.rx_typed.specs.Regions.{RegionTyp, region_integer, region_boolean, region_tuple, region_reference}
use Rattle.rx_typed.specs.Regions.{region_named, RegionTyps, no_region, region_and}

-- the first outlives the second
abbrev pub outlives : ℕ → ℕ → Bound
outlives l k = record { long = l; short = k }

-- a lifetime in the place of another: a longer one serves where that place is covariant, the same alone where it isn't
abbrev pub in_place : Polarity → ℕ → ℕ → List Bound
in_place Co l k = outlives l k ∷ []
in_place Inv l k = outlives l k ∷ outlives k l ∷ []

-- a covariant place within another is as that one
abbrev pub within : Polarity → Polarity → Polarity
within Co p = p
within Inv p = Inv

-- that of the first of an item's lifetimes, and those of the others; what is past the end is covariant
abbrev pub first_polarity : List Polarity → Polarity
first_polarity [] = Co
first_polarity (v ∷ vs) = v

abbrev pub other_polarities : List Polarity → List Polarity
other_polarities [] = []
other_polarities (v ∷ vs) = vs

-- the lifetimes of a struct or enum by their polarities
abbrev pub arguments : Polarity → List Polarity → List ℕ → List ℕ → List Bound
arguments p vs (l ∷ ls) (k ∷ ks) = in_place (within p (first_polarity vs)) l k ++ arguments p (other_polarities vs) ls ks
arguments p vs _ _ = []

-- a type in the place of another, by the polarities of each item's lifetimes: `&'a T` is covariant in both, `&'a mut T`
-- invariant in T, tuples as their parts are, structs and enums as their fields are. Types of other shapes ask nothing
abbrev mutual
  pub related : (ℕ → List Polarity) → Polarity → RegionTyp → RegionTyp → List Bound
  related V p (region_tuple ts) (region_tuple us) = all_related V p ts us
  related V p (region_reference false l t) (region_reference false k u) = in_place p l k ++ related V p t u
  related V p (region_reference true l t) (region_reference true k u) = in_place p l k ++ related V Inv t u
  related V p (region_named i ls) (region_named j ks) = arguments p (V i) ls ks
  related V p _ _ = []

  pub all_related : (ℕ → List Polarity) → Polarity → RegionTyps → RegionTyps → List Bound
  all_related V p (region_and t ts) (region_and u us) = related V p t u ++ all_related V p ts us
  all_related V p _ _ = []

-- a value of the first type is written where the second is wanted
abbrev pub subtypes : (ℕ → List Polarity) → RegionTyp → RegionTyp → List Bound
subtypes V t u = related V Co t u

-- ---- what the private functions do: the first of a list in the place of the first of another

abbrev pub argument : Polarity → List Polarity → ℕ → List ℕ → List Bound
argument p vs l [] = []
argument p vs l (k ∷ ks) = in_place (within p (first_polarity vs)) l k

abbrev pub first_related : (ℕ → List Polarity) → Polarity → RegionTyp → RegionTyps → List Bound
first_related V p t no_region = []
first_related V p t (region_and u us) = related V p t u
