-- A walk is a path from site 0, so its actions stand at the sites of the path; where no two sites have the same action these are
-- the only ones. A way to a site is the front of such a path.
use Rattle.std.proofs.Common.{◌≡◌, ◌↔◌, ℕ, List, [], ◌∷◌, ◌++◌, Some, refl, sym, ap, ◌∙◌, subst}
use Rattle.std.proofs.lemmas.List.{append_assoc}
use Rattle.rx_typed.specs.Tree.{Function}
use Rattle.rx_lower_walks.specs.Actions.{Action}
use Rattle.rx_lower_walks.specs.Orders.{order_function}
use Rattle.rx_lower_walks.specs.Walks.{Walk, IsWalk}
use Rattle.rx_lower_walks.specs.Graph.{Site, site_at, Path, stop, EachOnce}
use Rattle.rx_lower_walks.specs.Pieces.{graph}
use Rattle.rx_lower_walks.specs.Text.{actions_of}
use Rattle.rx_lower_walks.proofs.Sites.{paths_are_walks_of, reached}
use Rattle.rx_lower_walks.proofs.Distinct.{one_site}
use Rattle.rx_facts_tables.specs.Along.{Arrives}
use Rattle.rx_facts_tables.proofs.Ways.{site_within, comes_to, path_through, through, only}

-- the front of a walk is a walk
pub front_walks : (f : Function) (us vs : List Action) → IsWalk f (us ++ vs) → IsWalk f us
front_walks f us vs w = (vs ++ w.0, w.1, subst (λ (l : List Action). Walk (order_function f) l w.1) (append_assoc us vs w.0) w.2)

-- some way comes to each site
pub way_to : (f : Function) (p : ℕ) (s : Site) → site_at (graph f) p ≡ Some s → (w : List Action) × Arrives (graph f) 0 w p
way_to f p s e = comes_to (graph f) p (reached f p (site_within (graph f) p s e))

-- a way to a site, and a path on from there
pub walk_on : (f : Function) (p : ℕ) (s : Site) (w us : List Action) → Arrives (graph f) 0 w p → site_at (graph f) p ≡ Some s → Path (graph f) s.next us
    → IsWalk f (w ++ s.action ∷ us)
walk_on f p s w us a e path = (paths_are_walks_of f (w ++ s.action ∷ us)).0 (path_through (graph f) 0 p w us s a e path)

-- the site of an action of a walk, the way to it, and the path on
pub record OnWalk (f : Function) (p : ℕ) (s : Site) (w us : List Action) : Type 0 where
  pub way : Arrives (graph f) 0 w p
  pub rest : Path (graph f) s.next us

pub on_walk : (f : Function) → EachOnce (actions_of (graph f)) → (p : ℕ) (s : Site) → site_at (graph f) p ≡ Some s → (w us : List Action)
    → IsWalk f (w ++ s.action ∷ us) → OnWalk f p s w us
on_walk f once p s e w us walk =
    let t = through (graph f) (0 ∷ []) w s.action us (w ++ s.action ∷ us) refl ((paths_are_walks_of f (w ++ s.action ∷ us)).1 walk) in
    let q : t.at ≡ p = one_site (graph f) once t.at p t.site s t.is e t.action in
    let is : t.site ≡ s = one t.site s (sym t.is ∙ ap (λ n. site_at (graph f) n) q ∙ e) in
    record {
      way = subst (λ n. Arrives (graph f) n w p) (only t.from 0 t.among) (subst (λ n. Arrives (graph f) t.from w n) q t.way);
      rest = subst (λ (x : Site). Path (graph f) x.next us) is t.rest;
    }
  where
    one : (a b : Site) → Some a ≡ Some b → a ≡ b
    one a b h = cc

pub arrivals : (f : Function) → EachOnce (actions_of (graph f)) → (p : ℕ) (s : Site) → site_at (graph f) p ≡ Some s → (w : List Action)
    → Arrives (graph f) 0 w p ↔ IsWalk f (w ++ s.action ∷ [])
arrivals f once p s e w = (λ a. walk_on f p s w [] a e stop, λ h. (on_walk f once p s e w [] h).way)
