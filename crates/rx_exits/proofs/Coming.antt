-- A walk comes to a point where it comes to a site of the point's mark.
use Rattle.std.proofs.Common.{◌≡◌, ◌↔◌, ℕ, ◌+◌, ◌<◌, Bool, true, false, MatchBool, List, [], ◌∷◌, ◌++◌, length, Some, refl, ap, sym, ◌∙◌, subst, arith, true≢false}
use Rattle.rx_typed.specs.Tree.{Function}
use Rattle.rx_lower_walks.specs.Actions.{Action}
use Rattle.rx_lower_walks.specs.Walks.{IsWalk, Among}
use Rattle.rx_lower_walks.specs.Graph.{Site, site_at, Path, stop}
use Rattle.rx_lower_walks.specs.Pieces.{graph}
use Rattle.rx_lower_walks.proofs.Sites.{paths_are_walks_of}
use Rattle.rx_facts_tables.specs.Along.{Arrives}
use Rattle.rx_facts_tables.proofs.Ways.{site_within, path_through, through, only}
use Rattle.rx_exits.specs.declared.marks.MarkSite.{MarkSite}
use Rattle.rx_exits.specs.Marks.{mark_at, marks_from}
use Rattle.rx_exits.specs.Facts.{SomeMarked, NoneMarked}
use Rattle.rx_exits.proofs.Marking.{mark_site, marks_there, marks_all}

-- the site of an action of a walk, the way to it, and the path on
pub record OnWalk (f : Function) (w us : List Action) (a : Action) : Type 0 where
  pub at : ℕ
  pub site : Site
  pub is : site_at (graph f) at ≡ Some site
  pub action : site.action ≡ a
  pub way : Arrives (graph f) 0 w at
  pub rest : Path (graph f) site.next us

pub on_walk : (f : Function) (w us : List Action) (a : Action) → IsWalk f (w ++ a ∷ us) → OnWalk f w us a
on_walk f w us a walk =
    let t = through (graph f) (0 ∷ []) w a us (w ++ a ∷ us) refl ((paths_are_walks_of f (w ++ a ∷ us)).1 walk) in
    record {
      at = t.at;
      site = t.site;
      is = t.is;
      action = t.action;
      way = subst (λ n. Arrives (graph f) n w t.at) (only t.from 0 t.among) t.way;
      rest = t.rest;
    }

pub walk_on : (f : Function) (p : ℕ) (s : Site) (w us : List Action) (a : Action) → Arrives (graph f) 0 w p → site_at (graph f) p ≡ Some s → s.action ≡ a
    → Path (graph f) s.next us → IsWalk f (w ++ a ∷ us)
walk_on f p s w us a way e q path =
    subst (λ (x : Action). IsWalk f (w ++ x ∷ us)) q ((paths_are_walks_of f (w ++ s.action ∷ us)).0 (path_through (graph f) 0 p w us s way e path))

-- the mark of such a walk
pub record AtMark (f : Function) (n : ℕ) (w us : List Action) (ms : List MarkSite) : Type 0 where
  pub mark : MarkSite
  pub among : Among mark ms
  pub point : mark.point ≡ n
  pub site : Site
  pub is : site_at (graph f) mark.site ≡ Some site
  pub action : site.action ≡ mark_at n
  pub within : mark.site < length (graph f)
  pub way : Arrives (graph f) 0 w mark.site
  pub rest : Path (graph f) site.next us

pub at_mark : (f : Function) (n : ℕ) (w us : List Action) (ms : List MarkSite) → ms ≡ marks_from 0 (graph f) → IsWalk f (w ++ mark_at n ∷ us) → AtMark f n w us ms
at_mark f n w us ms e walk =
    let t = on_walk f w us (mark_at n) walk in
    record {
      mark = mark_site t.at n;
      among = subst (λ l. Among (mark_site t.at n) l) (sym e)
          (subst (λ k. Among (mark_site k n) (marks_from 0 (graph f))) (plus t.at) (marks_all 0 (graph f) t.at n t.site t.is t.action));
      point = refl;
      site = t.site;
      is = t.is;
      action = t.action;
      within = site_within (graph f) t.at t.site t.is;
      way = t.way;
      rest = t.rest;
    }
  where
    plus : (k : ℕ) → 0 + k ≡ k
    plus k = omega arith

-- the site of some mark
pub record MarkOf (f : Function) (n : ℕ) (Q : ℕ → Type 0) : Type 0 where
  pub at : ℕ
  pub site : Site
  pub is : site_at (graph f) at ≡ Some site
  pub action : site.action ≡ mark_at n
  pub within : at < length (graph f)
  pub holds : Q at

pub mark_of : (f : Function) (n : ℕ) (Q : ℕ → Type 0) (ms : List MarkSite) → ms ≡ marks_from 0 (graph f) → SomeMarked ms n Q → MarkOf f n Q
mark_of f n Q ms e some =
    let m = some.0 in let among = some.1 in let point = some.2 in let holds = some.3 in
    let t = marks_there 0 (graph f) m (subst (λ l. Among m l) e among) in
    let at : t.number ≡ m.site = omega (arith, t.at) in
    record {
      at = m.site;
      site = t.site;
      is = ap (λ k. site_at (graph f) k) (sym at) ∙ t.is;
      action = t.action ∙ ap mark_at point;
      within = subst (λ k. k < length (graph f)) at (site_within (graph f) t.number t.site t.is);
      holds = holds;
    }

-- what is told at the marks of a point holds on some walk that comes there
pub told : (f : Function) (n : ℕ) (ms : List MarkSite) (Q N : ℕ → Type 0) (R : List Action → Type 0) (r : Bool) → ms ≡ marks_from 0 (graph f)
    → MatchBool r (SomeMarked ms n Q) (NoneMarked ms n N)
    → ((i : ℕ) → i < length (graph f) → Q i → (w : List Action) × Arrives (graph f) 0 w i × R w)
    → ((i : ℕ) → i < length (graph f) → N i → ((w : List Action) × Arrives (graph f) 0 w i × R w) → ⊥)
    → (r ≡ true) ↔ ((w : List Action) × IsWalk f (w ++ mark_at n ∷ []) × R w)
told f n ms Q N R r e some found none = ((λ h. yes r h some), λ w. no r some w)
  where
    yes : (r : Bool) → r ≡ true → MatchBool r (SomeMarked ms n Q) (NoneMarked ms n N) → (w : List Action) × IsWalk f (w ++ mark_at n ∷ []) × R w
    yes true h some =
        let m = mark_of f n Q ms e some in let w = found m.at m.within m.holds in
        (w.0, walk_on f m.at m.site w.0 [] (mark_at n) w.1 m.is m.action stop, w.2)
    yes false h some = absurd (true≢false (sym h))

    no : (r : Bool) → MatchBool r (SomeMarked ms n Q) (NoneMarked ms n N) → (w : List Action) × IsWalk f (w ++ mark_at n ∷ []) × R w → r ≡ true
    no true some w = refl
    no false h w = let m = at_mark f n w.0 [] ms e w.1 in absurd (none m.mark.site m.within (h m.mark m.among m.point) (w.0, m.way, w.2))
