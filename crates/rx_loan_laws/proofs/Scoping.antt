-- What is reached from a borrow is reached along a way, whose actions are those of its sites; with a way to the borrow in front it is
-- a path, and so a walk. Back, a walk is a path, and its sites behind the borrow's are reached one after the other.
use Rattle.std.proofs.Common.{◌≡◌, ◌↔◌, ◌⊎◌, inl, inr, ℕ, Bool, true, false, List, [], ◌∷◌, ◌++◌, Some, refl, sym, ap, ◌∙◌, subst}
use Rattle.std.proofs.lemmas.List.{append_assoc}
use Rattle.rx_typed.specs.Tree.{Function}
use Rattle.rx_lower_walks.specs.Actions.{Action}
use Rattle.rx_lower_walks.specs.Walks.{IsWalk, Among, here, there}
use Rattle.rx_lower_walks.specs.Graph.{Site, site_at, Path, stop, go, EachOnce}
use Rattle.rx_lower_walks.specs.Pieces.{graph}
use Rattle.rx_lower_walks.specs.Text.{actions_of}
use Rattle.rx_lower_walks.proofs.Distinct.{one_site}
use Rattle.rx_lower_walks.proofs.Bounds.{next_are_sites}
use Rattle.rx_lower_walks.specs.Orders.{order_function}
use Rattle.rx_facts_tables.specs.Along.{Arrives, edges_of}
use Rattle.rx_facts_tables.specs.Along as ways
use Rattle.rx_facts_tables.proofs.Ways.{SiteThere, site_of, site_here, leads, arrives_on}
use Rattle.rx_facts_laws.proofs.Arriving.{way_to, walk_on, on_walk}
use Rattle.rx_graph_reach.specs.Reached.{next, further}
use Rattle.rx_loan.specs.Accesses.{Loan, acts_against}
use Rattle.rx_loan.specs.Loans.{ends, ends_at, InScope, IsLegal}
use Rattle.rx_loan_laws.specs.ScopesOnWalks.{InScopeOnSomeWalk, LegalOnWalks}

same_site : (a b : Site) → Some a ≡ Some b → a ≡ b
same_site a b h = cc

in_either : (a : Action) (us vs : List Action) → Among a (us ++ vs) → Among a us ⊎ Among a vs
in_either a [] vs m = inr m
in_either a (u ∷ us) vs here = inl here
in_either a (u ∷ us) vs (there m) = on (in_either a us vs m)
  where
    on : Among a us ⊎ Among a vs → Among a (u ∷ us) ⊎ Among a vs
    on (inl h) = inl (there h)
    on (inr h) = inr h

only_it : (a b : Action) → Among a (b ∷ []) → a ≡ b
only_it a b here = refl
only_it a b (there m) = elim m [ ]

-- ways that meet are one
joined : (g : List Site) (p q r : ℕ) (us vs : List Action) → Arrives g p us q → Arrives g q vs r → Arrives g p (us ++ vs) r
joined g p q r us vs ways.there w = w
joined g p q r us vs (ways.by {us = xs} k s e m v) w = ways.by k s e m (joined g k q r xs vs v w)

module _ (f : Function) (once : EachOnce (actions_of (graph f))) (R : ℕ → ℕ → Bool) (l : Loan) where
  abbrev Inside : List Action → Type 0
  Inside us = (q : ℕ) (s : Site) → site_at (graph f) q ≡ Some s → Among s.action us → R l.region q ≡ true

  abbrev Lasts : List Action → Type 0
  Lasts us = (a : Action) → Among a us → ends l.place a.act ≡ false

  -- ---- from what is reached to a walk

  -- a way from the borrow to a site
  record Going (p : ℕ) : Type 0 where
    borrow : Site
    is_borrow : site_at (graph f) l.site ≡ Some borrow
    site : Site
    is_site : site_at (graph f) p ≡ Some site
    between : List Action
    way : Arrives (graph f) l.site (borrow.action ∷ between) p
    inside : Inside (between ++ site.action ∷ [])
    lasts : Lasts between

  led_to : (q p : ℕ) → SiteThere (graph f) q p → (s : Site) × (site_at (graph f) p ≡ Some s)
  led_to q p t = site_here (graph f) p (next_are_sites (order_function f) q t.site t.is p t.next)

  -- a site in the region behind others that are
  inside_more : (us : List Action) (p : ℕ) (s : Site) → site_at (graph f) p ≡ Some s → R l.region p ≡ true → Inside us → Inside (us ++ s.action ∷ [])
  inside_more us p s e h i q t d m = by (in_either t.action us (s.action ∷ []) m)
    where
      by : Among t.action us ⊎ Among t.action (s.action ∷ []) → R l.region q ≡ true
      by (inl n) = i q t d n
      by (inr n) = ap (λ k. R l.region k) (one_site (graph f) once q p t s d e (only_it t.action s.action n)) ∙ h

  lasts_more : (us : List Action) (a : Action) → ends l.place a.act ≡ false → Lasts us → Lasts (us ++ a ∷ [])
  lasts_more us a e h b m = by (in_either b us (a ∷ []) m)
    where
      by : Among b us ⊎ Among b (a ∷ []) → ends l.place b.act ≡ false
      by (inl n) = h b n
      by (inr n) = ap (λ (x : Action). ends l.place x.act) (only_it b a n) ∙ e

  going : (p : ℕ) → InScope (graph f) R l p → Going p
  going p (next t i) = let s = site_of (graph f) l.site p t in let d = led_to l.site p s in
      record {
        borrow = s.site;
        is_borrow = s.is;
        site = d.0;
        is_site = d.1;
        between = [];
        way = ways.by p s.site s.is s.next ways.there;
        inside = inside_more [] p d.0 d.1 i (λ q x e m. elim m [ ]);
        lasts = λ a m. elim m [ ];
      }
  going p (further q r e t i) = let w = going q r in let s = site_of (graph f) q p t in let d = led_to q p s in
      let x : s.site ≡ w.site = same_site s.site w.site (sym s.is ∙ w.is_site) in
      record {
        borrow = w.borrow;
        is_borrow = w.is_borrow;
        site = d.0;
        is_site = d.1;
        between = w.between ++ w.site.action ∷ [];
        way = subst (λ (y : Site). Arrives (graph f) l.site (w.borrow.action ∷ (w.between ++ y.action ∷ [])) p) x
            (arrives_on (graph f) l.site q p (w.borrow.action ∷ w.between) s.site w.way s.is s.next);
        inside = inside_more (w.between ++ w.site.action ∷ []) p d.0 d.1 i w.inside;
        lasts = lasts_more w.between w.site.action (sym (ap (λ o. ends_at o l.place) w.is_site) ∙ e) w.lasts;
      }

  pub to_walk : (p : ℕ) → InScope (graph f) R l p → InScopeOnSomeWalk f R l p
  to_walk p h = let w = going p h in let b = way_to f l.site w.borrow w.is_borrow in
      record {
        borrow = w.borrow;
        is_borrow = w.is_borrow;
        site = w.site;
        is_site = w.is_site;
        before = b.0;
        between = w.between;
        walk = subst (λ us. IsWalk f us) (append_assoc b.0 (w.borrow.action ∷ w.between) (w.site.action ∷ []))
            (walk_on f p w.site (b.0 ++ w.borrow.action ∷ w.between) [] (joined (graph f) 0 l.site p b.0 (w.borrow.action ∷ w.between) b.1 w.way) w.is_site stop);
        inside = w.inside;
        lasts = w.lasts;
      }

  -- ---- from a walk to what is reached

  abbrev Reaches : ℕ → Type 0
  Reaches p = InScope (graph f) R l p

  inside_rest : (a : Action) (us : List Action) → Inside (a ∷ us) → Inside us
  inside_rest a us i q s e m = i q s e (there m)

  -- from a site on which each next one in the region is reached, along a path that is in the region and writes no prefix
  follow : (p : ℕ) (to : Site) → site_at (graph f) p ≡ Some to → (us : List Action) (ps : List ℕ) (ws : List Action) → ws ≡ us ++ to.action ∷ [] → Path (graph f) ps ws
      → ((q : ℕ) → Among q ps → R l.region q ≡ true → Reaches q) → Inside ws → Lasts us → Reaches p
  follow p to d us ps ws e stop step i h = absurd (nothing us e)
    where
      nothing : (us : List Action) → [] ≡ us ++ to.action ∷ [] → ⊥
      nothing [] x = cc
      nothing (u ∷ us) x = cc
  follow p to d [] ps ws e (go {us = vs} q s m is rest) step i h =
      let a : s.action ≡ to.action = cc in
      subst (λ n. Reaches n) (one_site (graph f) once q p s to is d a) (step q m (i q s is here))
  follow p to d (u ∷ us) ps ws e (go {us = vs} q s m is rest) step i h =
      let a : s.action ≡ u = cc in let x : vs ≡ us ++ to.action ∷ [] = cc in
      let r : Reaches q = step q m (i q s is here) in
      let n : ends_at (site_at (graph f) q) l.place ≡ false = ap (λ o. ends_at o l.place) is ∙ ap (λ (y : Action). ends l.place y.act) a ∙ h u here in
      follow p to d us s.next vs x rest (λ k o j. further q r n (leads (graph f) q k s is o) j) (inside_rest s.action vs i) (λ b o. h b (there o))

  pub of_walk : (p : ℕ) → InScopeOnSomeWalk f R l p → InScope (graph f) R l p
  of_walk p w =
      follow p w.site w.is_site w.between w.borrow.next (w.between ++ w.site.action ∷ []) refl
      (on_walk f once l.site w.borrow w.is_borrow w.before (w.between ++ w.site.action ∷ []) w.walk).rest
      (λ q m i. next (leads (graph f) l.site q w.borrow w.is_borrow m) i) w.inside w.lasts

pub scopes : (f : Function) → EachOnce (actions_of (graph f)) → (R : ℕ → ℕ → Bool) (l : Loan) (p : ℕ) → InScope (graph f) R l p ↔ InScopeOnSomeWalk f R l p
scopes f once R l p = (to_walk f once R l p, of_walk f once R l p)

pub legality : (f : Function) → EachOnce (actions_of (graph f)) → (R : ℕ → ℕ → Bool) (ls : List Loan) → IsLegal (graph f) R ls ↔ LegalOnWalks f R ls
legality f once R ls = (
  (λ legal l p m w h. legal l p (record { listed = m; scope = of_walk f once R l p w; against = (w.site, w.is_site, h) })),
  (λ legal l p meets. let w = to_walk f once R l p meets.scope in
      let x : meets.against.0 ≡ w.site = same_site meets.against.0 w.site (sym meets.against.1 ∙ w.is_site) in
      legal l p meets.listed w (subst (λ (s : Site). acts_against s.action.act l ≡ true) x meets.against.2)),
)
