-- Behind an action that stands at one place, a walk may go on as any other does that holds it: walks are paths through the graph.
use Rattle.std.proofs.Common.{◌≡◌, ℕ, true, List, [], ◌∷◌, ◌++◌, Some, refl, sym, ap, ◌∙◌, subst}
use Rattle.rx_typed.specs.Tree.{variable, Function}
use Rattle.rx_lower_walks.specs.Actions.{Action}
use Rattle.rx_lower_walks.specs.Walks.{IsWalk}
use Rattle.rx_lower_walks.specs.Graph.{Site, site_at, Path}
use Rattle.rx_lower_walks.specs.Pieces.{graph}
use Rattle.rx_lower_walks.proofs.Sites.{paths_are_walks_of}
use Rattle.rx_facts_tables.specs.Along.{Arrives, ahead}
use Rattle.rx_facts_tables.proofs.Ways.{path_through, through, only}
use Rattle.rx_facts_tables.specs.Live.{living}
use Rattle.rx_engine_related.specs.OneSite.{StandsOnce}
use Rattle.rx_engine_related.specs.OnePlace.{MeetInOne, alike, ends_in_one, ends_in_other, LeadsToOnePlace}

-- the site of an action of a walk, the way to it, and the path on
record At (f : Function) (a : Action) (w us : List Action) : Type 0 where
  pub number : ℕ
  pub site : Site
  pub is : site_at (graph f) number ≡ Some site
  pub action : site.action ≡ a
  pub way : Arrives (graph f) 0 w number
  pub rest : Path (graph f) site.next us

at_site : (f : Function) (a : Action) (w us : List Action) → IsWalk f (w ++ a ∷ us) → At f a w us
at_site f a w us walk =
    let t = through (graph f) (0 ∷ []) w a us (w ++ a ∷ us) refl ((paths_are_walks_of f (w ++ a ∷ us)).1 walk) in
    record { number = t.at; site = t.site; is = t.is; action = t.action; way = subst (λ n. Arrives (graph f) n w t.at) (only t.from 0 t.among) t.way; rest = t.rest }

pub recombined : (f : Function) (a : Action) → StandsOnce f a → (w v us : List Action) → IsWalk f (w ++ a ∷ us) → IsWalk f (v ++ a ∷ []) → IsWalk f (v ++ a ∷ us)
recombined f a once w v us h k =
    let x = at_site f a w us h in
    let y = at_site f a v [] k in
    let q : x.number ≡ y.number = once x.number y.number x.site y.site x.is y.is x.action y.action in
    let s : x.site ≡ y.site = one x.site y.site (sym x.is ∙ ap (λ n. site_at (graph f) n) q ∙ y.is) in
    subst (λ b. IsWalk f (v ++ b ∷ us)) y.action
    ((paths_are_walks_of f (v ++ y.site.action ∷ us)).0 (path_through (graph f) 0 y.number v us y.site y.way y.is (subst (λ (z : Site). Path (graph f) z.next us) s x.rest)))
  where
    one : (a b : Site) → Some a ≡ Some b → a ≡ b
    one a b h = cc

-- so it leads to one place
pub sole_leads : (f : Function) (a : Action) → StandsOnce f a → LeadsToOnePlace f a
sole_leads f a once w v us h k = (us, alike, recombined f a once w v us h k)

-- what ends behind it is not used
pub ahead_meets : (x : ℕ) {us vs : List Action} → MeetInOne us vs → ahead (living (variable x)) us ≡ true → ahead (living (variable x)) vs ≡ true
ahead_meets x alike e = e
ahead_meets x (ends_in_one h) e = ahead_meets x h e
ahead_meets x (ends_in_other h) e = ahead_meets x h e
