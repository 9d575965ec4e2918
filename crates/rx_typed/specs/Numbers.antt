-- Lifetimes that a type leaves open get numbers of their own, in the order in which they stand in the type.
use Rattle.std.specs.Prelude.{ℕ, ◌+◌, min, nat_le, if◌then◌else◌, List, [], ◌∷◌}
use Rattle.rx_typed.specs.Regions.{RegionTyp, region_integer, region_boolean, region_tuple, region_reference, region_named, RegionTyps, no_region, region_and}

abbrev pub capped : ℕ → ℕ
capped n = min n 18446744073709551615

-- a lifetime is open where its number is this one or greater
abbrev pub open_one : ℕ → ℕ → ℕ
open_one from l = if nat_le from l then 1 else 0

-- how many are open in a list, in a type
abbrev pub open_among : ℕ → List ℕ → ℕ
open_among from [] = 0
open_among from (l ∷ ls) = open_one from l + open_among from ls

abbrev mutual
  pub open_in : ℕ → RegionTyp → ℕ
  open_in from (region_integer k) = 0
  open_in from region_boolean = 0
  open_in from (region_tuple ts) = open_in_all from ts
  open_in from (region_reference m l t) = open_one from l + open_in from t
  open_in from (region_named i ls) = open_among from ls

  pub open_in_all : ℕ → RegionTyps → ℕ
  open_in_all from no_region = 0
  open_in_all from (region_and t ts) = open_in from t + open_in_all from ts

-- an open lifetime gets the next number
abbrev pub number : ℕ → ℕ → ℕ → ℕ
number from next l = if nat_le from l then next else l

abbrev pub numbers : ℕ → ℕ → List ℕ → List ℕ
numbers from next [] = []
numbers from next (l ∷ ls) = number from next l ∷ numbers from (next + open_one from l) ls

-- the type with the open ones numbered, from the next number on
abbrev mutual
  pub numbered : ℕ → ℕ → RegionTyp → RegionTyp
  numbered from next (region_integer k) = region_integer k
  numbered from next region_boolean = region_boolean
  numbered from next (region_tuple ts) = region_tuple (all_numbered from next ts)
  numbered from next (region_reference m l t) = region_reference m (number from next l) (numbered from (next + open_one from l) t)
  numbered from next (region_named i ls) = region_named i (numbers from next ls)

  pub all_numbered : ℕ → ℕ → RegionTyps → RegionTyps
  all_numbered from next no_region = no_region
  all_numbered from next (region_and t ts) = region_and (numbered from next t) (all_numbered from (next + open_in from t) ts)
