-- Types with other lifetimes: those of a struct's fields with the lifetimes of a type of the struct (Rust Reference,
-- "Generic parameters"), and the signature of a call with lifetimes of its own (RFC 2094, "Liveness" and "Subtyping": each
-- call has fresh ones).
use Rattle.std.specs.Prelude.{ℕ, zero, suc, get_or, if◌then◌else◌, List, [], ◌∷◌, map, Option, Some, slice_get}
use Rattle.rx_core.specs.declared.types.Bound.{Bound}
use Rattle.rx_typed.specs.declared.declarations.Decl.{Decl}
use Rattle.rx_typed.specs.declared.declarations.Decl.TheVariants as decl
use Rattle.rx_typed.specs.Regions.{RegionTyp, region_integer, region_boolean, region_tuple, region_reference, region_named, RegionTyps, no_region, region_and, regions_of, region-Ty}
use Rattle.rx_typed.specs.declared.renaming.Arguments.{Arguments}

abbrev mutual
  pub renamed : (ℕ → ℕ) → RegionTyp → RegionTyp
  renamed f (region_integer k) = region_integer k
  renamed f region_boolean = region_boolean
  renamed f (region_tuple ts) = region_tuple (all_renamed f ts)
  renamed f (region_reference m l t) = region_reference m (f l) (renamed f t)
  renamed f (region_named i ls) = region_named i (map f ls)

  pub all_renamed : (ℕ → ℕ) → RegionTyps → RegionTyps
  all_renamed f no_region = no_region
  all_renamed f (region_and t ts) = region_and (renamed f t) (all_renamed f ts)

-- the lifetime of this number of a list
abbrev pub of_list : List ℕ → ℕ → ℕ
of_list ls l = get_or ls l 0

-- an item's type, where its lifetimes are these
abbrev pub instance : List ℕ → RegionTyp → RegionTyp
instance ls t = renamed (of_list ls) t

-- what arguments make of a lifetime
abbrev pub argument : Arguments → ℕ → ℕ
argument A l = if A.own then l else of_list A.list l

-- ---- signatures

pub record Signature : Type 0 where
  pub params : RegionTyps
  pub answer : RegionTyp
  pub bounds : List Bound

abbrev pub bound_renamed : (ℕ → ℕ) → Bound → Bound
bound_renamed f b = record { long = f b.long; short = f b.short }

abbrev pub signature_with : (ℕ → ℕ) → RegionTyps → RegionTyp → List Bound → Signature
signature_with f ps t bs = record { params = all_renamed f ps; answer = renamed f t; bounds = map (bound_renamed f) bs }

abbrev pub unit_region : RegionTyp
unit_region = region_tuple no_region

-- so many numbers, from this one on
abbrev pub from : ℕ → ℕ → List ℕ
from n zero = []
from n (suc k) = n ∷ from (suc n) k

-- the signature of a function, its lifetimes numbered from this one on; an item that is no function has none
abbrev pub signature_from : ℕ → Option Decl → Signature
signature_from n (Some (decl.Func l ps t bs)) = signature_with (of_list (from n l)) (regions_of (map region-Ty ps)) (region-Ty t) bs
signature_from n _ = record { params = no_region; answer = unit_region; bounds = [] }

abbrev pub signature : List Decl → ℕ → ℕ → Signature
signature D f n = signature_from n (slice_get D f)
