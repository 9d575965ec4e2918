-- Which lifetimes of structs and enums are invariant (Rust Reference, "Subtyping and Variance"): those that stand
-- somewhere under a `&mut`, or in the place of an invariant one.
use Rattle.std.specs.Prelude.{◌≡◌, ◌↔◌, ℕ, zero, suc, ◌+◌, Bool, true, false, ◌||◌, if◌then◌else◌, List, [], ◌∷◌}
use Rattle.std.specs.Prelude.{Option, Some, length, replicate, slice_get, slice_set, slice_index_or}
use Rattle.rx_graph_cycles.specs.Reaches.{IsIn}
use Rattle.rx_typed.specs.declared.declarations.Polarity.{Polarity}
use Rattle.rx_typed.specs.declared.declarations.Polarity.TheVariants.{Co, Inv}
use Rattle.rx_typed.specs.declared.declarations.Decl.{Decl}
use Rattle.rx_typed.specs.declared.declarations.Decl.TheVariants as decl
use Rattle.rx_typed.specs.Regions.{RegionTyp, region_integer, region_boolean, region_tuple, region_reference}
use Rattle.rx_typed.specs.Regions.{region_named, RegionTyps, no_region, region_and, regions_of, regions_at}
use Rattle.rx_typed.specs.Regions.{lifetimes_in, region_fields, region_variants, regions}

-- by the types that each item holds
mutual
  -- the lifetime stands at an invariant place of the type
  pub data Fixed (H : List (List RegionTyp)) : RegionTyp → ℕ → Type 0 where
    in_tuple : {ts : RegionTyps} {k : ℕ} → FixedAmong H ts k → Fixed H (region_tuple ts) k
    behind : {m : Bool} {l : ℕ} {t : RegionTyp} {k : ℕ} → Fixed H t k → Fixed H (region_reference m l t) k
    under_mut : {l : ℕ} {t : RegionTyp} {k : ℕ} → IsIn (lifetimes_in t) k → Fixed H (region_reference true l t) k
    as_argument : {i : ℕ} {ls : List ℕ} {j k : ℕ} → slice_get ls j ≡ Some k → Invariant H i j
        → Fixed H (region_named i ls) k

  pub data FixedAmong (H : List (List RegionTyp)) : RegionTyps → ℕ → Type 0 where
    in_first : {t : RegionTyp} {ts : RegionTyps} {k : ℕ} → Fixed H t k → FixedAmong H (region_and t ts) k
    in_rest : {t : RegionTyp} {ts : RegionTyps} {k : ℕ} → FixedAmong H ts k → FixedAmong H (region_and t ts) k

  -- the lifetime of a struct or enum, by the item's number and its own, is invariant
  pub data Invariant (H : List (List RegionTyp)) : ℕ → ℕ → Type 0 where
    in_held : {i k : ℕ} → FixedAmong H (regions_at H i) k → Invariant H i k

-- the polarity of a lifetime in a list by their numbers; what is past its end is covariant
abbrev pub polarity : List Polarity → ℕ → Polarity
polarity ps k = slice_index_or ps k Co

-- a list that has the polarities of an item's lifetimes
abbrev pub TellsOf : List Decl → ℕ → List Polarity → Type 0
TellsOf items i ps = (k : ℕ) → (polarity ps k ≡ Inv) ↔ Invariant (regions items) i k

-- what an item has recorded
abbrev pub variances_recorded : Option Decl → List Polarity
variances_recorded (Some (decl.Struct c l vs fs)) = vs
variances_recorded (Some (decl.Enum c l vs ds)) = vs
variances_recorded _ = []

-- an item with other polarities recorded
abbrev pub recording : Decl → List Polarity → Decl
recording decl.Rt ps = decl.Rt
recording (decl.Struct c l vs fs) ps = decl.Struct c l ps fs
recording (decl.Enum c l vs ds) ps = decl.Enum c l ps ds
recording (decl.Func l ts t bs) ps = decl.Func l ts t bs

-- an item apart from the polarities that it has recorded
abbrev pub unrecorded : Decl → Decl
unrecorded d = recording d []

-- each struct and enum has recorded the polarities of its lifetimes
abbrev pub Recorded : List Decl → Type 0
Recorded items = (i : ℕ) → TellsOf items i (variances_recorded (slice_get items i))

-- how many polarities an item has: a struct or enum has one for each of its lifetimes
abbrev pub polarity_count : Option Decl → ℕ
polarity_count (Some (decl.Struct c l vs fs)) = l
polarity_count (Some (decl.Enum c l vs ds)) = l
polarity_count _ = 0

-- each item has recorded so many, and none past them
abbrev pub AsMany : List Decl → Type 0
AsMany items = (i : ℕ) → length (variances_recorded (slice_get items i)) ≡ polarity_count (slice_get items i)

-- a table of the polarities of each item's lifetimes
pub record AreVariances (items : List Decl) (table : List (List Polarity)) : Type 0 where
  pub whole : length table ≡ length items
  pub each : (i : ℕ) → TellsOf items i (slice_index_or table i [])
  pub as_many : (i : ℕ) → length (slice_index_or table i []) ≡ polarity_count (slice_get items i)

-- ---- what the private functions do: they mark what is invariant, with the polarities of the items held

abbrev pub is_inv : Polarity → Bool
is_inv Co = false
is_inv Inv = true

abbrev pub fix_one : Bool → List Polarity → ℕ → List Polarity
fix_one u ps l = if u then slice_set ps l Inv else ps

-- the lifetimes of a named type, from a number on
abbrev pub fix_arguments : Bool → List Polarity → ℕ → List Polarity → List ℕ → List Polarity
fix_arguments u vs j ps [] = ps
fix_arguments u vs j ps (l ∷ ls) = fix_arguments u vs (j + 1) (fix_one (u || is_inv (polarity vs j)) ps l) ls

-- whether the type stands under a `&mut`
abbrev mutual
  pub fix_in : List (List Polarity) → Bool → List Polarity → RegionTyp → List Polarity
  fix_in V u ps (region_integer k) = ps
  fix_in V u ps region_boolean = ps
  fix_in V u ps (region_tuple ts) = fix_among V u ps ts
  fix_in V u ps (region_reference m l t) = fix_in V (u || m) (fix_one u ps l) t
  fix_in V u ps (region_named i ls) = fix_arguments u (slice_index_or V i []) 0 ps ls

  pub fix_among : List (List Polarity) → Bool → List Polarity → RegionTyps → List Polarity
  fix_among V u ps no_region = ps
  fix_among V u ps (region_and t ts) = fix_among V u (fix_in V u ps t) ts

abbrev pub polarities_of : List (List Polarity) → Option Decl → List Polarity
polarities_of V (Some (decl.Struct c l vs fs)) = fix_among V false (replicate l Co) (regions_of (region_fields fs))
polarities_of V (Some (decl.Enum c l vs ds)) = fix_among V false (replicate l Co) (regions_of (region_variants ds))
polarities_of V _ = []

-- a table that is filled in an order of the items
abbrev pub fill : List Decl → List (List Polarity) → List ℕ → List (List Polarity)
fill items V [] = V
fill items V (n ∷ ns) = fill items (slice_set V n (polarities_of V (slice_get items n))) ns

-- the polarities of one item are recorded, and of all
abbrev pub record_one : List Decl → ℕ → List Polarity → List Decl
record_one [] i ps = []
record_one (d ∷ ds) zero ps = recording d ps ∷ ds
record_one (d ∷ ds) (suc i) ps = d ∷ record_one ds i ps

abbrev pub record_all : List Decl → List (List Polarity) → List Decl
record_all ds [] = ds
record_all [] (ps ∷ V) = []
record_all (d ∷ ds) (ps ∷ V) = recording d ps ∷ record_all ds V
