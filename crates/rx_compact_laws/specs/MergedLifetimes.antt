-- A function by other numbers of its lifetimes, of which several may be one: what must hold of the one and of the other (RFC 2094,
-- "Liveness", "Subtyping", "Named lifetimes").
use Rattle.std.specs.Prelude.{◌≡◌, ◌↔◌, ◌⊎◌, ℕ, ◌<◌, List}
use Rattle.rx_graph_cycles.specs.Reaches.{IsIn}
use Rattle.rx_typed.specs.Regions.{lifetimes_in}
use Rattle.rx_typed.specs.Tree.{Root}
use Rattle.rx_lower_walks.specs.Actions.{Action}
use Rattle.rx_region_outlives.specs.Implied.{HasPair}
use Rattle.rx_region.specs.Constraints.{Context, root_type, imposed}
use Rattle.rx_region.specs.Known.{KnownToOutlive}
use Rattle.rx_region.specs.Tables.{Follows}

-- the second is the first under these numbers, by the actions of its sites
pub record AreMerged (f : ℕ → ℕ) (C K : Context) (us : List Action) : Type 0 where
  -- the function's own lifetimes are those of its own
  pub own : (l : ℕ) → (l < C.lifetimes.own) ↔ (f l < K.lifetimes.own)
  -- only its own become one, and others that are asked to outlive each other
  pub apart : (l k : ℕ) → f l ≡ f k → (l ≡ k) ⊎ (((l < C.lifetimes.own) × (k < C.lifetimes.own)) ⊎ Follows (imposed C us) l k)
  -- its own only where they are known to
  pub equal : (l k : ℕ) → l < C.lifetimes.own → k < C.lifetimes.own → f l ≡ f k → KnownToOutlive C l k
  -- the same is known, imposed and live
  pub known : (l k : ℕ) → l < C.lifetimes.own → k < C.lifetimes.own → KnownToOutlive C l k ↔ KnownToOutlive K (f l) (f k)
  pub imposed_there : (l k : ℕ) → HasPair (imposed C us) l k → (f l ≡ f k) ⊎ HasPair (imposed K us) (f l) (f k)
  pub imposed_back : (x y : ℕ) → HasPair (imposed K us) x y → (l k : ℕ) × HasPair (imposed C us) l k × (x ≡ f l) × (y ≡ f k)
  pub live_there : (r : Root) (l : ℕ) → IsIn (lifetimes_in (root_type C.lifetimes r)) l → IsIn (lifetimes_in (root_type K.lifetimes r)) (f l)
  pub live_back : (r : Root) (x : ℕ) → IsIn (lifetimes_in (root_type K.lifetimes r)) x → (l : ℕ) × IsIn (lifetimes_in (root_type C.lifetimes r)) l × (x ≡ f l)
