-- Types that have as many lifetimes as what they name declares (Rust Reference, "Paths in types"), and a function of such types.
use Rattle.std.specs.Prelude.{◌≡◌, ℕ, true, List, length, Some, slice_get}
use Rattle.rx_typed.specs.declared.declarations.Decl.{Decl}
use Rattle.rx_typed.specs.PlainTypes.{declarations}
use Rattle.rx_typed.specs.Regions.{RegionTyp, region_integer, region_boolean, region_tuple, region_reference, region_named, RegionTyps, no_region, region_and}
use Rattle.rx_typed.specs.Types.{Declarations, lifetimes_declared}
use Rattle.rx_typed.specs.Tree.{Making, struct, variant_of}
use Rattle.rx_typed_declarations.specs.WellFormed.{item_fits}
use Rattle.rx_lower_walks.specs.Actions.{Act, Build, Action}
use Rattle.rx_lower_walks.specs.Walks.{Among}
use Rattle.rx_region.specs.Constraints.{Context, held, lifetimes_of}

-- as many as the struct or enum declares
abbrev pub AsMany : Declarations → ℕ → List ℕ → Type 0
AsMany D i ls = length ls ≡ lifetimes_declared (slice_get D i)

abbrev mutual
  pub HasAll : Declarations → RegionTyp → Type 0
  HasAll D (region_integer k) = Unit {0}
  HasAll D region_boolean = Unit {0}
  HasAll D (region_tuple ts) = HaveAll D ts
  HasAll D (region_reference m l t) = HasAll D t
  HasAll D (region_named i ls) = AsMany D i ls

  pub HaveAll : Declarations → RegionTyps → Type 0
  HaveAll D no_region = Unit {0}
  HaveAll D (region_and t ts) = HasAll D t × HaveAll D ts

-- what is made has the lifetimes of the type that it gets
abbrev pub MadeFits : Context → Making → RegionTyp → Type 0
MadeFits C (struct i) t = AsMany (declarations C.items) i (lifetimes_of t)
MadeFits C (variant_of i v) t = AsMany (declarations C.items) i (lifetimes_of t)
MadeFits C _ t = Unit {0}

abbrev pub ActFits : Context → Act → Type 0
ActFits C (Build w is ts d) = MadeFits C w (held C d)
ActFits C _ = Unit {0}

-- of a function with these actions
pub record Fits (C : Context) (us : List Action) : Type 0 where
  -- what structs and enums hold names what is declared
  pub items : (i : ℕ) (d : Decl) → slice_get C.items i ≡ Some d → item_fits (declarations C.items) d ≡ true
  -- the types of variables and temporaries
  pub types : (t : RegionTyp) → Among t C.lifetimes.types → HasAll (declarations C.items) t
  -- what is made
  pub made : (a : Action) → Among a us → ActFits C a.act
