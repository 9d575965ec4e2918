-- Which lifetimes of a function its signature makes known to outlive which: by its bounds, because the types of its parameters and its
-- result are formed, and by what follows (Rust Reference, "Lifetime bounds"; RFC 2094, "Named lifetimes").
use Rattle.std.specs.Prelude.{ℕ, ◌==◌, Bool, ◌⊎◌, List, [], length, map, Option, Some}
use Rattle.rx_typed.specs.declared.declarations.Decl.{Decl}
use Rattle.rx_typed.specs.declared.declarations.Decl.TheVariants as decl
use Rattle.rx_typed.specs.Regions.{regions, regions_of, region-Ty, lifetimes_among}
use Rattle.rx_region_outlives.specs.Implied.{Implied, ImpliedAmong, HasPair}

-- the signature says that lifetime l outlives lifetime k; an item that is no function says nothing
abbrev pub Says : List Decl → Option Decl → ℕ → ℕ → Type 0
Says D (Some (decl.Func n ps t bs)) l k =
    HasPair bs l k ⊎ (ImpliedAmong (regions D) (regions_of (map region-Ty ps)) l k ⊎ Implied (regions D) (region-Ty t) l k)
Says D _ l k = ⊥

-- it is known
pub data Outlives (D : List Decl) (o : Option Decl) : ℕ → ℕ → Type 0 where
  itself : {l : ℕ} → Outlives D o l l
  by : {l k : ℕ} (m : ℕ) → Says D o l m → Outlives D o m k → Outlives D o l k

-- the lifetimes in the types of the parameters, those that are left out too
abbrev pub parameter_lifetimes : Option Decl → List ℕ
parameter_lifetimes (Some (decl.Func n ps t bs)) = lifetimes_among (regions_of (map region-Ty ps))
parameter_lifetimes _ = []

-- there is one
abbrev pub is_single : Option Decl → Bool
is_single d = length (parameter_lifetimes d) == 1
