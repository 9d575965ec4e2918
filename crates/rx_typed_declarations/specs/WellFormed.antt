-- Declarations that are well-formed.
use Rattle.std.specs.Prelude.{◌≡◌, ℕ, ◌<◌, Bool, true, false, ◌&&◌, nat_lt, nat_eq, List, [], ◌∷◌, map, length, Option}
use Rattle.std.specs.Prelude.{Some, slice_get}
use Rattle.rx_core.specs.declared.types.Bound.{Bound}
use Rattle.rx_graph_cycles.specs.Reaches.{NoCycle}
use Rattle.rx_typed.specs.declared.declarations.Decl.{Decl}
use Rattle.rx_typed.specs.declared.declarations.Decl.TheVariants as decl
use Rattle.rx_typed.specs.Types.{Declared, struct_declared, enum_declared, Declarations, lifetimes_declared}
use Rattle.rx_typed.specs.PlainTypes.{declarations}
use Rattle.rx_typed_declarations.specs.Held.{held_by_each}
use Rattle.rx_typed.specs.Regions.{RegionTyp, region_integer, region_boolean, region_tuple, region_reference}
use Rattle.rx_typed.specs.Regions.{region_named, RegionTyps, no_region, region_and, regions_of, region-Ty, held_regions}

abbrev pub is_adt : Option Declared → Bool
is_adt (Some (struct_declared c l fs)) = true
is_adt (Some (enum_declared c l vs)) = true
is_adt _ = false

abbrev pub all_below : ℕ → List ℕ → Bool
all_below n [] = true
all_below n (l ∷ ls) = nat_lt l n && all_below n ls

-- a type of an item with so many lifetimes names structs and enums alone, each with as many lifetimes as it declares,
-- and lifetimes of the item
abbrev mutual
  pub fits : Declarations → ℕ → RegionTyp → Bool
  fits D n (region_integer k) = true
  fits D n region_boolean = true
  fits D n (region_tuple ts) = all_fit D n ts
  fits D n (region_reference m l t) = nat_lt l n && fits D n t
  fits D n (region_named i ls) =
      is_adt (slice_get D i) && nat_eq (length ls) (lifetimes_declared (slice_get D i)) && all_below n ls

  pub all_fit : Declarations → ℕ → RegionTyps → Bool
  all_fit D n no_region = true
  all_fit D n (region_and t ts) = fits D n t && all_fit D n ts

abbrev pub bounds_fit : ℕ → List Bound → Bool
bounds_fit n [] = true
bounds_fit n (b ∷ bs) = nat_lt b.long n && nat_lt b.short n && bounds_fit n bs

-- what a struct or enum holds names what is declared
abbrev pub item_fits : Declarations → Decl → Bool
item_fits D decl.Rt = true
item_fits D (decl.Struct c n vs fs) = all_fit D n (regions_of (held_regions (decl.Struct c n vs fs)))
item_fits D (decl.Enum c n vs ds) = all_fit D n (regions_of (held_regions (decl.Enum c n vs ds)))
item_fits D (decl.Func n ps t bs) = true

-- the signature of a function does
abbrev pub signature_fits : Declarations → Decl → Bool
signature_fits D (decl.Func n ps t bs) =
    all_fit D n (regions_of (map region-Ty ps)) && fits D n (region-Ty t) && bounds_fit n bs
signature_fits D _ = true

pub record WellFormed (items : List Decl) : Type 0 where
  -- each item has a number of 32 bits
  pub numbered : length items < 4294967296
  -- what structs and enums name is declared
  pub named : (i : ℕ) (d : Decl) → slice_get items i ≡ Some d → item_fits (declarations items) d ≡ true
  -- no struct or enum reaches itself
  pub finite : NoCycle (held_by_each (declarations items))

-- what signatures name is declared, too
pub record WellSigned (items : List Decl) : Type 0 where
  pub signatures : (i : ℕ) (d : Decl) → slice_get items i ≡ Some d → signature_fits (declarations items) d ≡ true
