-- Tables that tell, of each site of a graph, which facts hold on ways to it, or lie ahead on ways from it.
use Rattle.std.specs.Prelude.{◌≡◌, ◌↔◌, ℕ, ◌<◌, true, List, [], ◌∷◌, length, Some}
use Rattle.rx_lower_walks.specs.Actions.{Action}
use Rattle.rx_lower_walks.specs.Graph.{Site, site_at, Comes}
use Rattle.rx_graph.specs.declared.effect.Effect.{Effect}
use Rattle.rx_graph.specs.Facts.{has}
use Rattle.rx_graph.specs.Tables.{at}
use Rattle.rx_facts_tables.specs.Along.{Switch, HoldsAt, LiesAhead, Does, edges_of}

-- some path comes to each site
abbrev pub Reached : List Site → Type 0
Reached g = (q : ℕ) → q < length g → Comes g (0 ∷ []) q

-- what holds of the effect and the action of each site
abbrev pub EachDoes : (Effect → Action → Type 0) → List Effect → List Site → Type 0
EachDoes D [] [] = Unit {0}
EachDoes D (e ∷ es) (s ∷ g) = D e s.action × EachDoes D es g
EachDoes D _ _ = ⊥

-- on some way to the site, where these facts hold at the start
pub record Tracks (edges : List (List ℕ)) (effects : List Effect) (facts : List ℕ) (bound : ℕ) (T : List (List ℕ)) : Type 0 where
  pub exact : (g : List Site) (switches : ℕ → Switch) → edges ≡ edges_of g → Reached g → Does g switches bound effects
      → (p i : ℕ) → p < length g → i < bound → (at T p i ≡ true) ↔ HoldsAt g (switches i) (has facts i) p

-- on some way from a site that the site leads to
pub record Foresees (edges : List (List ℕ)) (effects : List Effect) (bound : ℕ) (T : List (List ℕ)) : Type 0 where
  pub exact : (g : List Site) (switches : ℕ → Switch) → edges ≡ edges_of g → Does g switches bound effects
      → (p i : ℕ) (s : Site) → site_at g p ≡ Some s → i < bound → (at T p i ≡ true) ↔ LiesAhead g (switches i) s.next
