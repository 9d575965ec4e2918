-- What holds at a site along the graph's edges is what holds there on some way from the first site.
use Rattle.std.proofs.Common.{◌≡◌, ℕ, ◌<◌, Bool, true, false, not, ◌&&◌, ◌||◌, List, [], ◌∷◌, ◌++◌, length, refl, ap, sym, ◌∙◌, ◌↔◌, ◌⊎◌, inl, inr, true≢false}
use Rattle.rx_lower_walks.specs.Actions.{Action}
use Rattle.rx_lower_walks.specs.Graph.{Site, Comes}
use Rattle.rx_graph.specs.declared.effect.Effect.{Effect}
use Rattle.rx_graph.specs.declared.effect.Start.{Start}
use Rattle.rx_graph.specs.Facts.{has, targets, effect_of, Holds}
use Rattle.rx_graph.specs.Facts as facts
use Rattle.rx_facts_tables.specs.Along.{Arrives, Switch, behind, after, HoldsAt, Does, edges_of}
use Rattle.rx_facts_tables.specs.Along as ways
use Rattle.rx_facts_tables.proofs.Ways.{one_of, site_of, leads, arrives_on, comes_to}

pub after_append : (s : Switch) (us vs : List Action) (b : Bool) → after s (us ++ vs) b ≡ after s vs (after s us b)
after_append s [] vs b = refl
after_append s (a ∷ us) vs b = after_append s us vs (behind s a b)

pub gave : (a b : Bool) → a ≡ true → (a || b) ≡ true
gave true b h = refl
gave false b h = absurd (true≢false (sym h))

pub stayed : (a k b : Bool) → k ≡ false → b ≡ true → (a || (not k && b)) ≡ true
stayed true k b h e = refl
stayed false k b h e = ap (λ k. not k && b) h ∙ e

pub unkilled : (k b : Bool) → (not k && b) ≡ true → (k ≡ false) × (b ≡ true)
unkilled true b h = absurd (true≢false (sym h))
unkilled false b h = (refl, h)

module _ (g : List Site) (switches : ℕ → Switch) (bound : ℕ) (effects : List Effect) (does : Does g switches bound effects) (fs : List ℕ) (i : ℕ) (below : i < bound) where
  abbrev start : Start
  start = record { site = 0; facts = fs }

  one_more : (p q : ℕ) (us : List Action) (s : Site) (b : Bool) → behind (switches i) s.action (after (switches i) us b) ≡ true
      → after (switches i) (us ++ s.action ∷ []) b ≡ true
  one_more p q us s b h = after_append (switches i) us (s.action ∷ []) b ∙ h

  on_a_way : ((q : ℕ) → q < length g → Comes g (0 ∷ []) q) → (p : ℕ) → Holds (edges_of g) effects start i p → HoldsAt g (switches i) (has fs i) p
  on_a_way reached p (facts.begins h) = ([], ways.there, h)
  on_a_way reached p (facts.given q t h) =
      let r = site_of g q p t in let w = comes_to g q (reached q r.within) in (
        w.0 ++ r.site.action ∷ [],
        arrives_on g 0 q p w.0 r.site w.1 r.is r.next,
        one_more p q w.0 r.site (has fs i) (gave ((switches i).gives r.site.action) _ (sym (does.gives q i r.site r.is below) ∙ h)),
      )
  on_a_way reached p (facts.stays q t before h) =
      let r = site_of g q p t in let w = on_a_way reached q before in (
        w.0 ++ r.site.action ∷ [],
        arrives_on g 0 q p w.0 r.site w.1 r.is r.next,
        one_more p q w.0 r.site (has fs i) (stayed ((switches i).gives r.site.action) ((switches i).kills r.site.action) _ (sym (does.kills q i r.site r.is below) ∙ h) w.2),
      )

  of_way : (p q : ℕ) (us : List Action) (b : Bool) → Arrives g q us p → (b ≡ true → Holds (edges_of g) effects start i q) → after (switches i) us b ≡ true
      → Holds (edges_of g) effects start i p
  of_way p q us b ways.there known h = known h
  of_way p q us b (ways.by {us = vs} r s e m w) known h = of_way p r vs (behind (switches i) s.action b) w next h
    where
      by : ((switches i).gives s.action ≡ true) ⊎ ((not ((switches i).kills s.action) && b) ≡ true) → Holds (edges_of g) effects start i r
      by (inl x) = facts.given q (leads g q r s e m) (does.gives q i s e below ∙ x)
      by (inr x) = let u = unkilled ((switches i).kills s.action) b x in
          facts.stays q (leads g q r s e m) (known u.1) (does.kills q i s e below ∙ u.0)

      next : behind (switches i) s.action b ≡ true → Holds (edges_of g) effects start i r
      next x = by (one_of ((switches i).gives s.action) (not ((switches i).kills s.action) && b) x)

  pub holds_along : ((q : ℕ) → q < length g → Comes g (0 ∷ []) q) → (p : ℕ) → Holds (edges_of g) effects start i p ↔ HoldsAt g (switches i) (has fs i) p
  holds_along reached p = (on_a_way reached p, λ h. of_way p 0 h.0 (has fs i) h.1 (λ e. facts.begins e) h.2)
