-- Sets of points and of sites that rows of bits say: for each lifetime the sites, then the ends of the function's own lifetimes; for
-- each loan the sites.
use Rattle.std.specs.Prelude.{◌≡◌, ℕ, ◌+◌, ◌<◌, ◌≤◌, nat_lt, Bool, ◌&&◌, List, [], length, get_or}
use Rattle.rx_graph.specs.Tables.{at}
use Rattle.rx_graph_cycles.specs.Reaches.{IsIn}
use Rattle.rx_typed.specs.Regions.{lifetimes_in}
use Rattle.rx_typed.specs.Tree.{Root}
use Rattle.rx_region.specs.Constraints.{Context, root_type}
use Rattle.rx_region.specs.Solutions.{site, end, Sets}

-- the sets of so many sites and own lifetimes
abbrev pub written : ℕ → ℕ → List (List ℕ) → Sets
written sites own T l (site p) = nat_lt p sites && at T l p
written sites own T l (end k) = nat_lt k own && at T l (sites + k)

-- whether the row of a lifetime or a loan has a site, of so many
abbrev pub inside : List (List ℕ) → ℕ → ℕ → ℕ → Bool
inside T sites l p = nat_lt p sites && at T l p

-- rows of so many words each
abbrev pub Wide : ℕ → List (List ℕ) → Type 0
Wide w T = (l : ℕ) → l < length T → length (get_or T l []) ≡ w

-- the lifetimes of a function's types are among those that are counted, and so are its own
pub record Numbered (C : Context) : Type 0 where
  pub own : C.lifetimes.own ≤ C.lifetimes.regions
  pub types : (r : Root) (l : ℕ) → IsIn (lifetimes_in (root_type C.lifetimes r)) l → l < C.lifetimes.regions
