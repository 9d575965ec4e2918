-- Which lifetimes outlive which because a type is formed with them: all in `T` outlive `'a` of `&'a T`, at every depth,
-- and a struct or enum has the pairs of its fields (Rust Reference, "Lifetime bounds"; RFC 2094, "Reborrow constraints"
-- speaks of such types as well-formed).
use Rattle.std.specs.Prelude.{◌≡◌, ◌↔◌, ◌⊎◌, ℕ, Bool, true, false, List, [], ◌∷◌, ◌++◌, length, Option, Some, None, slice_get, slice_index_or}
use Rattle.rx_graph_bits.specs.Rows.{holds}
use Rattle.rx_core.specs.declared.types.Bound.{Bound}
use Rattle.rx_graph_cycles.specs.Reaches.{IsIn}
use Rattle.rx_typed.specs.declared.declarations.Decl.{Decl}
use Rattle.rx_typed.specs.Regions.{RegionTyp, region_integer, region_boolean, region_tuple, region_reference}
use Rattle.rx_typed.specs.Regions.{region_named, RegionTyps, no_region, region_and}
use Rattle.rx_typed.specs.Regions.{regions_at, lifetimes_in, regions}
use Rattle.rx_region_outlives.specs.Related.{outlives}

-- by the types that each item holds: the first outlives the second
mutual
  pub data Implied (H : List (List RegionTyp)) : RegionTyp → ℕ → ℕ → Type 0 where
    in_tuple : {ts : RegionTyps} {l k : ℕ} → ImpliedAmong H ts l k → Implied H (region_tuple ts) l k
    behind : {m : Bool} {r : ℕ} {t : RegionTyp} {l k : ℕ} → Implied H t l k → Implied H (region_reference m r t) l k
    pointed_to : {m : Bool} {k : ℕ} {t : RegionTyp} {l : ℕ} → IsIn (lifetimes_in t) l → Implied H (region_reference m k t) l k
    by_fields : {i : ℕ} {ls : List ℕ} {x y l k : ℕ} → slice_get ls x ≡ Some l → slice_get ls y ≡ Some k
        → ImpliedBy H i x y → Implied H (region_named i ls) l k

  pub data ImpliedAmong (H : List (List RegionTyp)) : RegionTyps → ℕ → ℕ → Type 0 where
    in_first : {t : RegionTyp} {ts : RegionTyps} {l k : ℕ} → Implied H t l k → ImpliedAmong H (region_and t ts) l k
    in_rest : {t : RegionTyp} {ts : RegionTyps} {l k : ℕ} → ImpliedAmong H ts l k → ImpliedAmong H (region_and t ts) l k

  -- of the lifetimes of a struct or enum by their numbers in it
  pub data ImpliedBy (H : List (List RegionTyp)) : ℕ → ℕ → ℕ → Type 0 where
    in_held : {i x y : ℕ} → ImpliedAmong H (regions_at H i) x y → ImpliedBy H i x y

-- ---- as a list of pairs

-- a list has the pair
abbrev pub HasPair : List Bound → ℕ → ℕ → Type 0
HasPair [] l k = ⊥
HasPair (b ∷ bs) l k = (b ≡ outlives l k) ⊎ HasPair bs l k

-- the first of some lifetimes outlives the second
abbrev pub pair_of : Option ℕ → Option ℕ → List Bound
pair_of (Some l) (Some k) = outlives l k ∷ []
pair_of _ _ = []

-- pairs of an item's lifetimes, for a type that has these in their places
abbrev pub with_arguments : List ℕ → List Bound → List Bound
with_arguments ls [] = []
with_arguments ls (b ∷ bs) = pair_of (slice_get ls b.long) (slice_get ls b.short) ++ with_arguments ls bs

abbrev pub all_outlive : List ℕ → ℕ → List Bound
all_outlive [] k = []
all_outlive (l ∷ ls) k = outlives l k ∷ all_outlive ls k

-- of a type, by the pairs of each item's lifetimes
abbrev mutual
  pub implied_in : (ℕ → List Bound) → RegionTyp → List Bound
  implied_in P (region_integer n) = []
  implied_in P region_boolean = []
  implied_in P (region_tuple ts) = implied_among P ts
  implied_in P (region_reference m k t) = all_outlive (lifetimes_in t) k ++ implied_in P t
  implied_in P (region_named i ls) = with_arguments ls (P i)

  pub implied_among : (ℕ → List Bound) → RegionTyps → List Bound
  implied_among P no_region = []
  implied_among P (region_and t ts) = implied_in P t ++ implied_among P ts

-- the pairs of an item in a table; what is past its end has none
abbrev pub pairs_of : List (List Bound) → ℕ → List Bound
pairs_of T i = slice_index_or T i []

-- a list that has exactly the pairs of an item
abbrev pub ImpliesOf : List (List RegionTyp) → ℕ → List Bound → Type 0
ImpliesOf H i ps = (x y : ℕ) → HasPair ps x y ↔ ImpliedBy H i x y

-- a table of the pairs of each item's lifetimes
pub record AreImplied (items : List Decl) (table : List (List Bound)) : Type 0 where
  pub whole : length table ≡ length items
  pub each : (i : ℕ) → ImpliesOf (regions items) i (pairs_of table i)

-- ---- what the private functions do

-- the two have the same pairs
abbrev pub SamePairs : List Bound → List Bound → Type 0
SamePairs ps qs = (l k : ℕ) → HasPair ps l k ↔ HasPair qs l k

-- marks on pairs: rows of bits
abbrev pub marked : List (List ℕ) → ℕ → ℕ → Bool
marked rows l k = holds (slice_index_or rows l []) k

-- one more is marked, at most
abbrev pub Marked : List (List ℕ) → List (List ℕ) → Bound → Type 0
Marked old new b = (l k : ℕ) → marked new l k ≡ true → (marked old l k ≡ true) ⊎ (b ≡ outlives l k)

abbrev pub Unmarked : List (List ℕ) → Type 0
Unmarked rows = (l k : ℕ) → marked rows l k ≡ false

-- what is marked is in the list
abbrev pub Kept : List (List ℕ) → List Bound → Type 0
Kept rows ps = (l k : ℕ) → marked rows l k ≡ true → HasPair ps l k

-- a list that has the pairs of an item's fields, by a table of those of the items that it holds
abbrev pub FromHeld : List Decl → List (List Bound) → ℕ → List Bound → Type 0
FromHeld items T n ps = SamePairs ps (implied_among (pairs_of T) (regions_at (regions items) n))
