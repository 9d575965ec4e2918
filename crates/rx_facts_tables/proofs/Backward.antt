-- What holds at a site along the edges turned round is what lies ahead on some way from the sites that it leads to.
use Rattle.std.proofs.Common.{◌≡◌, ℕ, ◌<◌, true, not, ◌&&◌, List, [], ◌∷◌, length, Some, sym, ◌∙◌, subst, ◌↔◌, ◌⊎◌, inl, inr, true≢false, arith, zero, suc}
use Rattle.std.proofs.lemmas.List.{length-map}
use Rattle.rx_lower_walks.specs.Actions.{Action}
use Rattle.rx_lower_walks.specs.Walks.{Among}
use Rattle.rx_lower_walks.specs.Graph.{Site, site_at, Path, stop, go}
use Rattle.rx_graph.specs.declared.effect.Effect.{Effect}
use Rattle.rx_graph.specs.declared.effect.Start.{Start}
use Rattle.rx_graph.specs.Facts.{has, targets, effect_of, Holds}
use Rattle.rx_graph.specs.Facts as facts
use Rattle.rx_facts_tables.specs.Along.{Switch, ahead, LiesAhead, Does, edges_of}
use Rattle.rx_facts_tables.specs.Turning.{Turned}
use Rattle.rx_facts_tables.proofs.Ways.{one_of, site_of, site_here, site_within, leads}
use Rattle.rx_facts_tables.proofs.Forward.{gave, stayed, unkilled}

module _ (g : List Site) (switches : ℕ → Switch) (bound : ℕ) (effects : List Effect) (does : Does g switches bound effects) (back : List (List ℕ))
    (turned : Turned (edges_of g) back) (i : ℕ) (below : i < bound) where
  abbrev start : Start
  start = record { site = 0; facts = [] }

  turned_edge : (p q : ℕ) (s : Site) → site_at g q ≡ Some s → has (targets back q) p ≡ has (targets (edges_of g) p) q
  turned_edge p q s e = turned.turns p q (subst (λ n. q < n) (sym (length-map g (λ (s : Site). s.next))) (site_within g q s e))

  none_past : (l : List (List ℕ)) (q p : ℕ) → has (targets l q) p ≡ true → q < length l
  none_past [] q p h = absurd (true≢false (sym h))
  none_past (r ∷ l) zero p h = omega arith
  none_past (r ∷ l) (suc q) p h = omega (arith, none_past l q p h)

  -- the site that leads back, and the one that it leads back to
  record Led (p q : ℕ) : Type 0 where
    from : Site
    is_from : site_at g p ≡ Some from
    to : Site
    is_to : site_at g q ≡ Some to
    next : Among q from.next

  led : (p q : ℕ) → has (targets back q) p ≡ true → Led p q
  led p q h =
      let within = none_past back q p h in
      let r = site_here g q (omega (arith, within, turned.count, length-map g (λ (s : Site). s.next))) in
      let l = site_of g p q (sym (turned_edge p q r.0 r.1) ∙ h) in
      record { from = l.site; is_from = l.is; to = r.0; is_to = r.1; next = l.next }

  one_site : (q : ℕ) (s t : Site) → site_at g q ≡ Some s → site_at g q ≡ Some t → s ≡ t
  one_site q s t e f = cc

  record Ahead (p : ℕ) : Type 0 where
    site : Site
    is : site_at g p ≡ Some site
    us : List Action
    path : Path g site.next us
    comes : ahead (switches i) us ≡ true

  lies_ahead : (p : ℕ) → Holds back effects start i p → Ahead p
  lies_ahead p (facts.begins h) = absurd (true≢false (sym h))
  lies_ahead p (facts.given q t h) =
      let l = led p q t in
      record {
        site = l.from;
        is = l.is_from;
        us = l.to.action ∷ [];
        path = go q l.to l.next l.is_to stop;
        comes = gave ((switches i).gives l.to.action) _ (sym (does.gives q i l.to l.is_to below) ∙ h);
      }
  lies_ahead p (facts.stays q t before h) =
      let l = led p q t in let r = lies_ahead q before in
      record {
        site = l.from;
        is = l.is_from;
        us = r.site.action ∷ r.us;
        path = go q r.site l.next r.is r.path;
        comes = stayed ((switches i).gives r.site.action) ((switches i).kills r.site.action) _ (sym (does.kills q i r.site r.is below) ∙ h) r.comes;
      }

  of_path : (p : ℕ) (ps : List ℕ) (us : List Action) → Path g ps us → ((q : ℕ) → Among q ps → has (targets (edges_of g) p) q ≡ true)
      → ahead (switches i) us ≡ true → Holds back effects start i p
  of_path p ps us stop lead h = absurd (true≢false (sym h))
  of_path p ps us (go {us = vs} q s m e rest) lead h = by (one_of ((switches i).gives s.action) _ h) (λ x. of_path q s.next vs rest (λ r n. leads g q r s e n) x)
    where
      edge : has (targets back q) p ≡ true
      edge = turned_edge p q s e ∙ lead q m

      by : ((switches i).gives s.action ≡ true) ⊎ ((not ((switches i).kills s.action) && ahead (switches i) vs) ≡ true)
          → (ahead (switches i) vs ≡ true → Holds back effects start i q) → Holds back effects start i p
      by (inl x) later = facts.given q edge (does.gives q i s e below ∙ x)
      by (inr x) later = let u = unkilled ((switches i).kills s.action) (ahead (switches i) vs) x in
          facts.stays q edge (later u.1) (does.kills q i s e below ∙ u.0)

  pub holds_ahead : (p : ℕ) (s : Site) → site_at g p ≡ Some s → Holds back effects start i p ↔ LiesAhead g (switches i) s.next
  holds_ahead p s e = (
    (λ h. let r = lies_ahead p h in subst (λ (t : Site). LiesAhead g (switches i) t.next) (one_site p r.site s r.is e) (r.us, r.path, r.comes)),
    (λ h. of_path p s.next h.0 h.1 (λ q m. leads g p q s e m) h.2),
  )
