-- A function of which no more is asked than of another (RFC 2094, "Solving constraints": sets only grow with constraints).
use Rattle.std.specs.Prelude.{◌≡◌, ℕ, List}
use Rattle.rx_lower_walks.specs.Actions.{Action}
use Rattle.rx_region_outlives.specs.Implied.{HasPair}
use Rattle.rx_region.specs.Constraints.{Context, imposed}
use Rattle.rx_region.specs.Tables.{Follows}

-- by these actions: the lifetimes of its own and its types are the same, and each pair that is imposed on the first follows from those
-- that are imposed on the second
pub record AsksNoMore (C K : Context) (us : List Action) : Type 0 where
  pub own : C.lifetimes.own ≡ K.lifetimes.own
  pub types : C.lifetimes.types ≡ K.lifetimes.types
  pub temporaries : C.lifetimes.temporaries ≡ K.lifetimes.temporaries
  pub pairs : (l k : ℕ) → HasPair (imposed C us) l k → Follows (imposed K us) l k
