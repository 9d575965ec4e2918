-- What the tables say of liveness.
use Rattle.std.proofs.Common.{◌≡◌, ◌↔◌, ◌⊎◌, inl, inr, ℕ, zero, suc, ◌<◌, Bool, true, false, not, ◌&&◌, ◌||◌, List, [], ◌∷◌, length, Option, Some, None, slice_get, refl, ap, sym, ◌∙◌, subst, arith, true≢false}
use Rattle.std.proofs.lemmas.Option.{slice_get_within}
use Rattle.rx_lower_walks.specs.Actions.{Action}
use Rattle.rx_lower_walks.specs.Walks.{Among, here}
use Rattle.rx_lower_walks.specs.Graph.{Site, site_at, Path, stop, go}
use Rattle.rx_graph.specs.declared.effect.Effect.{Effect}
use Rattle.rx_graph.specs.Facts.{has, effect_of}
use Rattle.rx_graph.specs.Facts as facts
use Rattle.rx_graph.specs.Tables.{at}
use Rattle.rx_facts_tables.specs.Along.{Switch, behind, ahead, LiesAhead, Does, edges_of}
use Rattle.rx_facts_tables.specs.Tracking.{EachDoes, Foresees}
use Rattle.rx_facts_tables.proofs.Ways.{one_of, only, site_here}
use Rattle.rx_facts_tables.proofs.Forward.{gave, stayed, unkilled}
use Rattle.rx_lower_walks.specs.declared.actions.Root.{Root}
use Rattle.rx_lower_walks.specs.PlainFlow.{plain-Root}
use Rattle.rx_facts_tables.specs.Live.{used, written, has_root, roots_of, living, IsLive}
use Rattle.rx_facts_tables.specs.LiveTables.{IsNot, HasAllUsed}
use Rattle.rx_facts_tables.specs.Effects.{DoesAt}
use Rattle.rx_facts_tables.proofs.Roots.{not_true}

-- of a root, where there is one
abbrev switch_of : Option Root → Switch
switch_of None = record { gives = λ a. false; kills = λ a. false }
switch_of (Some r) = living (plain-Root r)

got : (W : List Root) (k : ℕ) → k < length W → (r : Root) × (slice_get W k ≡ Some r)
got [] k h = absurd (omega (arith, h))
got (r ∷ W) zero h = (r, refl)
got (r ∷ W) (suc k) h = got W k (omega (arith, h))

does_at : (W : List Root) (es : List Effect) (g : List Site) → EachDoes (DoesAt W) es g → (p : ℕ) (s : Site) → site_at g p ≡ Some s
    → (e : Effect) × (slice_get es p ≡ Some e) × DoesAt W e s.action
does_at W [] [] h p s e = absurd (cc)
does_at W [] (t ∷ g) h p s e = absurd h
does_at W (x ∷ es) [] h p s e = absurd h
does_at W (x ∷ es) (t ∷ g) h zero s e = let z : t ≡ s = cc in (x, refl, subst (λ (u : Site). DoesAt W x u.action) z h.0)
does_at W (x ∷ es) (t ∷ g) h (suc p) s e = does_at W es g h.1 p s e

module _ (W : List Root) (es : List Effect) (g : List Site) (each : EachDoes (DoesAt W) es g) where
  gives_at : (p k : ℕ) (s : Site) (r : Root) → site_at g p ≡ Some s → slice_get W k ≡ Some r → has (effect_of (slice_get es p)).gives k ≡ has_root (used s.action.act) (plain-Root r)
  gives_at p k s r e d = let x = does_at W es g each p s e in ap (λ (o : Option Effect). has (effect_of o).gives k) x.1 ∙ x.2.gives k r d

  kills_at : (p k : ℕ) (s : Site) (r : Root) → site_at g p ≡ Some s → slice_get W k ≡ Some r → has (effect_of (slice_get es p)).kills k ≡ has_root (roots_of (written s.action.act)) (plain-Root r)
  kills_at p k s r e d = let x = does_at W es g each p s e in ap (λ (o : Option Effect). has (effect_of o).kills k) x.1 ∙ x.2.kills k r d

  does : Does g (λ k. switch_of (slice_get W k)) (length W) es
  does = record {
    gives = λ p k s e less. let r = got W k less in gives_at p k s r.0 e r.1 ∙ ap (λ (o : Option Root). (switch_of o).gives s.action) (sym r.1);
    kills = λ p k s e less. let r = got W k less in kills_at p k s r.0 e r.1 ∙ ap (λ (o : Option Root). (switch_of o).kills s.action) (sym r.1);
  }

-- at the site itself
here_ahead : (s : Switch) (g : List Site) (p : ℕ) (site : Site) → site_at g p ≡ Some site → (b : Bool) → ((b ≡ true) ↔ LiesAhead g s site.next)
    → (behind s site.action b ≡ true) ↔ LiesAhead g s (p ∷ [])
here_ahead s g p site is b later = (
  (λ h. by (one_of (s.gives site.action) (not (s.kills site.action) && b) h)),
  (λ h. back (p ∷ []) h.0 h.1 refl h.2),
) where
  by : (s.gives site.action ≡ true) ⊎ ((not (s.kills site.action) && b) ≡ true) → LiesAhead g s (p ∷ [])
  by (inl x) = (site.action ∷ [], go p site here is stop, gave (s.gives site.action) _ x)
  by (inr x) = let u = unkilled (s.kills site.action) b x in let w = later.0 u.1 in
      (site.action ∷ w.0, go p site here is w.1, stayed (s.gives site.action) (s.kills site.action) _ u.0 w.2)

  one_site : (t : Site) → site_at g p ≡ Some t → site ≡ t
  one_site t e = cc

  to : (t : Site) (us : List Action) → site ≡ t → Path g t.next us → behind s t.action (ahead s us) ≡ true → behind s site.action b ≡ true
  to t us e path h = step (one_of (s.gives site.action) (not (s.kills site.action) && ahead s us) (ap (λ (u : Site). behind s u.action (ahead s us)) e ∙ h))
    where
      step : (s.gives site.action ≡ true) ⊎ ((not (s.kills site.action) && ahead s us) ≡ true) → behind s site.action b ≡ true
      step (inl x) = gave (s.gives site.action) _ x
      step (inr x) = let u = unkilled (s.kills site.action) (ahead s us) x in
          stayed (s.gives site.action) (s.kills site.action) b u.0 (later.1 (us, subst (λ (v : Site). Path g v.next us) (sym e) path, u.1))

  back : (ps : List ℕ) (us : List Action) → Path g ps us → ps ≡ p ∷ [] → ahead s us ≡ true → behind s site.action b ≡ true
  back ps us stop e h = absurd (true≢false (sym h))
  back ps us (go {us = vs} q t m d rest) e h =
      let x : q ≡ p = only q p (subst (λ (l : List ℕ). Among q l) e m) in
      to t vs (one_site t (ap (λ n. site_at g n) (sym x) ∙ d)) rest h

pub live_exactly : (W : List Root) (es : List Effect) (g : List Site) (edges T : List (List ℕ)) → edges ≡ edges_of g → EachDoes (DoesAt W) es g
    → Foresees edges es (length W) T → (p k : ℕ) (r : Root) → p < length g → slice_get W k ≡ Some r
    → (facts.behind (effect_of (slice_get es p)) k (at T p k) ≡ true) ↔ IsLive g (plain-Root r) p
live_exactly W es g edges T e each foresees p k r within is =
    let s = site_here g p within in
    let later = subst (λ (o : Option Root). (at T p k ≡ true) ↔ LiesAhead g (switch_of o) s.0.next) is
    (foresees.exact g (λ k. switch_of (slice_get W k)) e (does W es g each) p k s.0 s.1 (slice_get_within W k r is)) in
    let h = here_ahead (living (plain-Root r)) g p s.0 s.1 (at T p k) later in
    let q : facts.behind (effect_of (slice_get es p)) k (at T p k) ≡ behind (living (plain-Root r)) s.0.action (at T p k) =
    ap (λ c. c || (not (has (effect_of (slice_get es p)).kills k) && at T p k)) (gives_at W es g each p k s.0 r s.1 is)
    ∙ ap (λ c. has_root (used s.0.action.act) (plain-Root r) || (not c && at T p k)) (kills_at W es g each p k s.0 r s.1 is) in
    ((λ x. h.0 (sym q ∙ x)), λ x. q ∙ h.1 x)

-- what no site uses is live nowhere
none_ahead : (W : List Root) (g : List Site) (r : Root) → HasAllUsed W g → ((k : ℕ) → IsNot W k r) → (ps : List ℕ) (us : List Action) → Path g ps us
    → ahead (living (plain-Root r)) us ≡ false
none_ahead W g r used_there fresh ps us stop = refl
none_ahead W g r used_there fresh ps us (go {us = vs} p s m e rest) =
    ap (λ b. b || (not (has_root (roots_of (written s.action.act)) (plain-Root r)) && ahead (living (plain-Root r)) vs))
    (not_true (has_root (used s.action.act) (plain-Root r)) (λ h. let n = used_there p s e r h in fresh n.0 n.1))
    ∙ ap (λ b. not (has_root (roots_of (written s.action.act)) (plain-Root r)) && b) (none_ahead W g r used_there fresh s.next vs rest)
    ∙ and_false (not (has_root (roots_of (written s.action.act)) (plain-Root r)))
  where
    and_false : (b : Bool) → (b && false) ≡ false
    and_false true = refl
    and_false false = refl

pub unused : (W : List Root) (g : List Site) → HasAllUsed W g → (p : ℕ) (r : Root) → ((k : ℕ) → IsNot W k r) → IsLive g (plain-Root r) p → ⊥
unused W g h p r fresh live = true≢false (sym live.2 ∙ none_ahead W g r h fresh (p ∷ []) live.0 live.1)
