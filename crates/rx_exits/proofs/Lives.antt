-- A variable is live behind an exit's marks exactly where some walk goes on from such a mark to a use of it. A mark uses and writes no
-- variable, so what is live at it is live behind it.
use Rattle.std.proofs.Common.{◌≡◌, ◌↔◌, ℕ, Bool, true, false, MatchBool, List, [], ◌∷◌, ◌++◌, Some, refl, ap, sym, ◌∙◌, subst, true≢false}
use Rattle.rx_typed.specs.Tree.{variable, Function}
use Rattle.rx_lower_walks.specs.Actions.{Action}
use Rattle.rx_lower_walks.specs.Walks.{IsWalk, Among, here}
use Rattle.rx_lower_walks.specs.Graph.{Site, site_at, Path, stop, go}
use Rattle.rx_lower_walks.specs.Pieces.{graph}
use Rattle.rx_lower_walks.proofs.Sites.{reached}
use Rattle.rx_facts_tables.specs.Along.{behind, ahead}
use Rattle.rx_facts_tables.proofs.Ways.{comes_to, only}
use Rattle.rx_facts_tables.specs.Live.{living, IsLive}
use Rattle.rx_exits.specs.declared.marks.MarkSite.{MarkSite}
use Rattle.rx_exits.specs.Marks.{mark_at, marks_from}
use Rattle.rx_exits.specs.Living.{SomeLive, NoneLive}
use Rattle.rx_exits.proofs.Coming.{walk_on, at_mark, mark_of}

-- a walk that holds the mark, and goes on to a use
abbrev Goes : Function → ℕ → ℕ → Type 0
Goes f n x = (w us : List Action) × IsWalk f (w ++ mark_at n ∷ us) × (ahead (living (variable x)) us ≡ true)

-- a path from a mark
record On (f : Function) (p n x : ℕ) : Type 0 where
  us : List Action
  site : Site
  is : site_at (graph f) p ≡ Some site
  action : site.action ≡ mark_at n
  path : Path (graph f) site.next us
  live : ahead (living (variable x)) us ≡ true

goes_on : (f : Function) (p n x : ℕ) (s : Site) → site_at (graph f) p ≡ Some s → s.action ≡ mark_at n → IsLive (graph f) (variable x) p → On f p n x
goes_on f p n x s is action live = back (p ∷ []) live.0 live.1 refl live.2
  where
    one_site : (t : Site) → site_at (graph f) p ≡ Some t → s ≡ t
    one_site t e = cc

    back : (ps : List ℕ) (us : List Action) → Path (graph f) ps us → ps ≡ p ∷ [] → ahead (living (variable x)) us ≡ true → On f p n x
    back ps us stop e h = absurd (true≢false (sym h))
    back ps us (go {us = vs} q t m d rest) e h =
        let z : q ≡ p = only q p (subst (λ (l : List ℕ). Among q l) e m) in
        let at : site_at (graph f) p ≡ Some t = ap (λ k. site_at (graph f) k) (sym z) ∙ d in
        let a : t.action ≡ mark_at n = ap (λ (u : Site). u.action) (sym (one_site t at)) ∙ action in
        record {
          us = vs;
          site = t;
          is = at;
          action = a;
          path = rest;
          live = sym (ap (λ (b : Action). behind (living (variable x)) b (ahead (living (variable x)) vs)) a) ∙ h;
        }

pub live_at : (f : Function) (n x : ℕ) (ms : List MarkSite) (r : Bool) → ms ≡ marks_from 0 (graph f)
    → MatchBool r (SomeLive (graph f) (variable x) ms n) (NoneLive (graph f) (variable x) ms n) → (r ≡ true) ↔ Goes f n x
live_at f n x ms r e h = ((λ q. yes r q h), λ g. no r h g)
  where
    yes : (r : Bool) → r ≡ true → MatchBool r (SomeLive (graph f) (variable x) ms n) (NoneLive (graph f) (variable x) ms n) → Goes f n x
    yes true q some =
        let m = mark_of f n (λ i. IsLive (graph f) (variable x) i) ms e some in
        let w = comes_to (graph f) m.at (reached f m.at m.within) in
        let o = goes_on f m.at n x m.site m.is m.action m.holds in
        (w.0, o.us, walk_on f m.at o.site w.0 o.us (mark_at n) w.1 o.is o.action o.path, o.live)
    yes false q some = absurd (true≢false (sym q))

    no : (r : Bool) → MatchBool r (SomeLive (graph f) (variable x) ms n) (NoneLive (graph f) (variable x) ms n) → Goes f n x → r ≡ true
    no true some g = refl
    no false none g =
        let m = at_mark f n g.0 g.1 ms e g.2 in
        absurd (none m.mark m.among m.point (
          m.site.action ∷ g.1,
          go m.mark.site m.site here m.is m.rest,
          ap (λ (b : Action). behind (living (variable x)) b (ahead (living (variable x)) g.1)) m.action ∙ g.3,
        ))
