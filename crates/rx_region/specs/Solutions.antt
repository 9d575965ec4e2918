-- Sets of points for the lifetimes of a function, and the least that serve (RFC 2094, "Liveness" and "Solving constraints").
use Rattle.std.specs.Prelude.{◌≡◌, ◌↔◌, ℕ, ◌<◌, Bool, true, ◌&&◌, List, length}
use Rattle.rx_graph_cycles.specs.Reaches.{IsIn}
use Rattle.rx_typed.specs.Regions.{lifetimes_in}
use Rattle.rx_typed.specs.Tree.{Root}
use Rattle.rx_lower_walks.specs.Graph.{Site}
use Rattle.rx_lower_walks.specs.Text.{actions_of}
use Rattle.rx_facts_tables.specs.Live.{IsLive}
use Rattle.rx_region_outlives.specs.Implied.{HasPair}
use Rattle.rx_region.specs.Constraints.{Context, root_type, imposed}

-- a site of the function, or the end of one of its own lifetimes
pub data Point : Type 0 where
  site : ℕ → Point
  end : ℕ → Point

-- which points each lifetime has
abbrev pub Sets : Type 0
Sets = ℕ → Point → Bool

-- sets that meet all that is asked of them, by the sites of the function
pub record Solution (C : Context) (g : List Site) (R : Sets) : Type 0 where
  -- a lifetime of the function's own has all sites and its own end
  pub whole : (l p : ℕ) → l < C.lifetimes.own → p < length g → R l (site p) ≡ true
  pub ends : (l : ℕ) → l < C.lifetimes.own → R l (end l) ≡ true
  -- where a variable or temporary is live, each lifetime of its type has the site
  pub live : (r : Root) (p l : ℕ) → IsLive g r p → IsIn (lifetimes_in (root_type C.lifetimes r)) l → R l (site p) ≡ true
  -- what is imposed on two lifetimes
  pub longer : (l k : ℕ) → HasPair (imposed C (actions_of g)) l k → (x : Point) → R k x ≡ true → R l x ≡ true

-- the points that both have
abbrev pub both : Sets → Sets → Sets
both R S l x = R l x && S l x

-- the least: what is asked and nothing else
pub data Least (C : Context) (g : List Site) : ℕ → Point → Type 0 where
  whole : {l p : ℕ} → l < C.lifetimes.own → p < length g → Least C g l (site p)
  ends : {l : ℕ} → l < C.lifetimes.own → Least C g l (end l)
  live : {p l : ℕ} (r : Root) → IsLive g r p → IsIn (lifetimes_in (root_type C.lifetimes r)) l → Least C g l (site p)
  longer : {l : ℕ} {x : Point} (k : ℕ) → HasPair (imposed C (actions_of g)) l k → Least C g k x → Least C g l x

-- sets that have exactly the points of the least
abbrev pub AreLeast : Context → List Site → Sets → Type 0
AreLeast C g R = (l : ℕ) (x : Point) → (R l x ≡ true) ↔ Least C g l x
