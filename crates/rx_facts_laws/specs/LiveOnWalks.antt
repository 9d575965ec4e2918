-- When a variable or a temporary is live at a site, told over the walks of its function: some walk holds the site's action, and
-- there or later a use, with no write of the whole in between. (RFC 2094, "Liveness".)
use Rattle.std.specs.Prelude.{◌≡◌, ℕ, true, false, List, [], ◌∷◌, ◌++◌, Some}
use Rattle.rx_typed.specs.Tree.{Root, Function}
use Rattle.rx_lower_walks.specs.Actions.{Action}
use Rattle.rx_lower_walks.specs.Walks.{IsWalk, Among}
use Rattle.rx_lower_walks.specs.Graph.{Site, site_at}
use Rattle.rx_lower_walks.specs.Pieces.{graph}
use Rattle.rx_facts_tables.specs.Live.{has_root, used, written, roots_of}

pub record LiveOnSomeWalk (f : Function) (r : Root) (p : ℕ) : Type 0 where
  pub site : Site
  pub stands : site_at (graph f) p ≡ Some site
  -- the walk: what it holds in front of the site's action, and behind it
  pub before : List Action
  pub behind : List Action
  pub walk : IsWalk f (before ++ site.action ∷ behind)
  -- from the site's action on it ends with the use; of one action, uses come before what it writes
  pub between : List Action
  pub use_of : Action
  pub ends : site.action ∷ behind ≡ between ++ use_of ∷ []
  pub uses : has_root (used use_of.act) r ≡ true
  pub unwritten : (a : Action) → Among a between → has_root (roots_of (written a.act)) r ≡ false
