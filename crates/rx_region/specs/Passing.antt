-- What is answered of a function's lifetimes: its least sets, or the first pair that is missing.
use Rattle.std.specs.Prelude.{◌≡◌, ◌⊎◌, ℕ, ◌<◌, ◌≤◌, List, [], ◌∷◌, length, Result, Ok, Err}
use Rattle.rx_core.specs.declared.types.Bound.{Bound}
use Rattle.rx_region_outlives.specs.Implied.{HasPair}
use Rattle.rx_lower_walks.specs.Graph.{Site}
use Rattle.rx_region.specs.Constraints.{Context}
use Rattle.rx_region.specs.Known.{Missing}
use Rattle.rx_region.specs.Solutions.{AreLeast}
use Rattle.rx_region.specs.Tables.{sets_of, Misses, Keeps}
use Rattle.rx_region.specs.declared.regions.Regions.{Regions}
use Rattle.rx_region.specs.declared.pass.RegionFault.{RegionFault}
use Rattle.rx_region.specs.declared.pass.RegionFault.TheVariants as fault

-- no missing pair comes before this one, by the longer and then by the shorter
abbrev pub IsFirst : Context → List Site → ℕ → ℕ → Type 0
IsFirst C g l k = (x y : ℕ) → Missing C g x y → (l < x) ⊎ ((l ≡ x) × (k ≤ y))

-- the sets are the least, of as many sites, and keep to what is known; or a pair is missing, and it is the first
abbrev pub RegionAnswer : Context → List Site → Result Regions RegionFault → Type 0
RegionAnswer C g (Ok r) = AreLeast C g (sets_of r) × Keeps C (sets_of r) × (r.sites ≡ length g)
RegionAnswer C g (Err (fault.Missing l k)) = Missing C g l k × IsFirst C g l k
RegionAnswer C g (Err fault.OutOfMemory) = Unit {0}

-- ---- what private functions do

-- the first of two pairs is not behind the second
abbrev pub Precedes : ℕ → ℕ → ℕ → ℕ → Type 0
Precedes l k x y = (l < x) ⊎ ((l ≡ x) × (k ≤ y))

-- the first of a list precedes all
abbrev pub FirstIsLeast : List Bound → Type 0
FirstIsLeast [] = Unit {0}
FirstIsLeast (b ∷ bs) = (x y : ℕ) → HasPair (b ∷ bs) x y → Precedes b.long b.short x y

pub record Solved (C : Context) (g : List Site) (r : Regions) (ps : List Bound) : Type 0 where
  pub least : AreLeast C g (sets_of r)
  pub sites : r.sites ≡ length g
  pub misses : Misses C g ps
  pub first : FirstIsLeast ps
  pub keeps : ps ≡ [] → Keeps C (sets_of r)

abbrev pub FirstOf : Regions → List Bound → Result Regions RegionFault → Type 0
FirstOf r [] q = q ≡ Ok r
FirstOf r (b ∷ bs) q = q ≡ Err (fault.Missing b.long b.short)
