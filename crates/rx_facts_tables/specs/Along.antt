-- Facts along the ways through a graph of sites. A fact is a number, which some actions make true and some false; it is told
-- on a list of actions, and of a site by the lists of actions on ways to it or from it.
use Rattle.std.specs.Prelude.{◌≡◌, ℕ, ◌<◌, Bool, true, false, not, ◌&&◌, ◌||◌, List, [], ◌∷◌, map, Some, slice_get}
use Rattle.rx_lower_walks.specs.Actions.{Action}
use Rattle.rx_lower_walks.specs.Walks.{Among}
use Rattle.rx_lower_walks.specs.Graph.{Site, site_at, Path}
use Rattle.rx_graph.specs.declared.effect.Effect.{Effect}
use Rattle.rx_graph.specs.Facts.{has, effect_of}

-- a way from one site to another, with the actions that it takes before it arrives there
pub data Arrives (g : List Site) : ℕ → List Action → ℕ → Type 0 where
  there : {p : ℕ} → Arrives g p [] p
  by : {p r : ℕ} {us : List Action} (q : ℕ) (s : Site) → site_at g p ≡ Some s → Among q s.next → Arrives g q us r
      → Arrives g p (s.action ∷ us) r

-- what actions do to a fact
pub record Switch : Type 0 where
  pub gives : Action → Bool
  pub kills : Action → Bool

-- whether it holds behind an action
abbrev pub behind : Switch → Action → Bool → Bool
behind s a before = s.gives a || (not (s.kills a) && before)

-- whether it holds behind a list of actions
abbrev pub after : Switch → List Action → Bool → Bool
after s [] before = before
after s (a ∷ us) before = after s us (behind s a before)

-- whether a list of actions comes to one that makes it true, through none that makes it false
abbrev pub ahead : Switch → List Action → Bool
ahead s [] = false
ahead s (a ∷ us) = behind s a (ahead s us)

-- it holds at a site on some way from the first site, where it does or doesn't at the start
abbrev pub HoldsAt : List Site → Switch → Bool → ℕ → Type 0
HoldsAt g s start p = (us : List Action) × Arrives g 0 us p × (after s us start ≡ true)

-- it lies ahead on some way from one of these sites
abbrev pub LiesAhead : List Site → Switch → List ℕ → Type 0
LiesAhead g s ps = (us : List Action) × Path g ps us × (ahead s us ≡ true)

-- effects that say of each fact below a bound what the actions of the sites do
pub record Does (g : List Site) (switches : ℕ → Switch) (bound : ℕ) (effects : List Effect) : Type 0 where
  pub gives : (q i : ℕ) (s : Site) → site_at g q ≡ Some s → i < bound → has (effect_of (slice_get effects q)).gives i ≡ (switches i).gives s.action
  pub kills : (q i : ℕ) (s : Site) → site_at g q ≡ Some s → i < bound → has (effect_of (slice_get effects q)).kills i ≡ (switches i).kills s.action

-- the sites that each site leads to
abbrev pub edges_of : List Site → List (List ℕ)
edges_of g = map (λ (s : Site). s.next) g
