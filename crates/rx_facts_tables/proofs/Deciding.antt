-- A function is initialised where all its sites are in order by the tables, and is not where one is not.
use Rattle.std.proofs.Common.{◌≡◌, inl, inr, ℕ, ◌<◌, Bool, true, false, not, List, [], ◌∷◌, ◌++◌, length, Some, Err, slice_get, ◌↔◌, refl, ap, sym, ◌∙◌, subst, arith, true≢false}
use Rattle.std.proofs.lemmas.Option.{slice_get_within}
use Rattle.rx_core.specs.declared.types.Step.{Step}
use Rattle.rx_core.specs.declared.types.Place as core
use Rattle.rx_typed.specs.Tree.{Function, Place}
use Rattle.rx_lower_walks.specs.Actions.{Action}
use Rattle.rx_lower_walks.specs.Walks.{IsWalk}
use Rattle.rx_lower_walks.specs.Graph.{Site, site_at, stop}
use Rattle.rx_lower_walks.specs.Pieces.{graph}
use Rattle.rx_lower_walks.proofs.Sites.{paths_are_walks_of, reached}
use Rattle.rx_graph.specs.Tables.{at}
use Rattle.rx_graph.specs.declared.least.Table.{Table}
use Rattle.rx_facts_tables.specs.declared.frames.Layout.{Layout}
use Rattle.rx_facts_tables.specs.declared.whole.InitTable.{InitTable}
use Rattle.rx_facts_tables.specs.Along.{Arrives, after}
use Rattle.rx_facts_tables.specs.Tracking.{Reached}
use Rattle.rx_facts_tables.proofs.Ways.{path_through, through_first, site_within}
use Rattle.rx_facts_tables.specs.Places.{Frame, is_part, all_parts}
use Rattle.rx_facts_tables.specs.Layouts.{plain-Frame, IsSized, IsLayout}
use Rattle.rx_facts_tables.specs.Setting.{setting, is_set, looked_at}
use Rattle.rx_facts_tables.specs.Wholes.{placed, regains, loses, standing, stands, was_assigned}
use Rattle.rx_facts_tables.specs.Wholes as wholes
use Rattle.rx_facts_tables.specs.Initialised.{IsFixed, InOrder, Initialised, IsUnset, looked, entered, IsAgain, again}
use Rattle.rx_facts_tables.specs.Tables.{switches, KeepsForAll, LooksIll, EntersIll, AssignsIll}
use Rattle.rx_facts_tables.specs.Judged.{Well, Ill, AllWell, SomeIll}
use Rattle.rx_facts_tables.specs.Answer.{IsInitTable, IsFacts, Answers}
use Rattle.rx_facts_tables.specs.declared.facts.Kind.TheVariants as kind
use Rattle.rx_facts_tables.specs.declared.facts.Setup.{Setup}
use Rattle.rx_facts_tables.specs.declared.judging.Facts.{Facts}
use Rattle.rx_facts_tables.specs.declared.whole.InitFault.{InitFault}
use Rattle.rx_facts_tables.specs.declared.whole.InitFault.TheVariants as fault
use Rattle.rx_facts_tables.proofs.Exact.{turned, turned_after, same_after, setting_apart, standing_apart, not_false, is_true, is_false, picked_got, part_below}

module _ (s : Setup) (muts : List Bool) (t : Facts) (g : List Site) (facts : IsFacts s g (length muts) t) (f : Function) (e : g ≡ graph f) where
  abbrev F : Frame
  F = plain-Frame s.frame.now

  pub all_reached : Reached g
  all_reached = subst Reached (sym e) (reached f)

  -- a walk that comes to a site, and its action
  pub walk_to : (p : ℕ) (w : List Action) (site : Site) → Arrives g 0 w p → site_at g p ≡ Some site → IsWalk f (w ++ site.action ∷ [])
  walk_to p w site way is =
      let h = subst (λ (g : List Site). Arrives g 0 w p) e way in let k : site_at (graph f) p ≡ Some site = ap (λ (g : List Site). site_at g p) (sym e) ∙ is in
      (paths_are_walks_of f (w ++ site.action ∷ [])).0 (path_through (graph f) 0 p w [] site h k stop)

  record Comes (w : List Action) (a : Action) : Type 0 where
    at : ℕ
    site : Site
    is : site_at g at ≡ Some site
    action : site.action ≡ a
    way : Arrives g 0 w at

  to_site : (w : List Action) (a : Action) → IsWalk f (w ++ a ∷ []) → Comes w a
  to_site w a walk =
      let r = through_first (graph f) w a [] ((paths_are_walks_of f (w ++ a ∷ [])).1 walk) in
      record { at = r.0; site = r.1; is = ap (λ (g : List Site). site_at g r.0) e ∙ r.2; action = r.3; way = subst (λ (g : List Site). Arrives g 0 w r.0) (sym e) r.4 }

  -- ---- single facts

  pub unset_after : (n : ℕ) (w : List Action) → after (turned (setting F n)) w true ≡ not (is_set F w n)
  unset_after n w = turned_after (setting F n) (setting_apart F n) w false

  lost_after : (i x : ℕ) (qs : List Step) (w : List Action) → slice_get s.watched.now i ≡ Some (record { var = x; steps = qs })
      → after (switches F s.watched.now kind.Lost i) w true ≡ not (stands w x qs)
  lost_after i x qs w is =
      same_after (switches F s.watched.now kind.Lost i) (turned (standing x qs))
      (λ a. picked_got (λ q. loses q.var q.steps a.act) s.watched.now i _ is) (λ a. picked_got (λ q. regains q.var q.steps a.act) s.watched.now i _ is) w true
      ∙ turned_after (standing x qs) (standing_apart x qs) w false

  -- ---- a function is initialised

  module _ (sized : IsSized s.frame.now) (total : s.layout.now.total ≡ all_parts F.sizes F.types) (kept : KeepsForAll s.watched.now g) (well : AllWell s muts t g) where
    in_order : (w : List Action) (a : Action) (p : ℕ) (site : Site) → site_at g p ≡ Some site → site.action ≡ a → Arrives g 0 w p → InOrder F muts w a
    in_order w a p site is same way = subst (λ (a : Action). InOrder F muts w a) same (record { looks = looks; enters = enters; assigns = assigns })
      where
        here : Well s muts t p site.action
        here = well p site is

        below : p < length g
        below = site_within g p site is

        looks : (q : Place) → looked_at site.action.act ≡ Some q → (n : ℕ) → is_part F q n ≡ true → is_set F w n ≡ true
        looks q l n part = is_true (is_set F w n) (λ u. true≢false
            (sym ((facts.unset all_reached p n below (omega (arith, part_below F sized q n part, total))).1 (w, way, unset_after n w ∙ ap not u)) ∙ here.looks q l n part))

        enters : (x : ℕ) (qs : List Step) → wholes.enters x qs site.action.act ≡ true → stands w x qs ≡ true
        enters x qs h = is_true (stands w x qs) (λ u.
            let k = kept p site is x qs h in
            true≢false (sym ((facts.lost all_reached p k.0 below (slice_get_within s.watched.now k.0 _ k.1)).1 (w, way, lost_after k.0 x qs w k.1 ∙ ap not u)) ∙ here.enters k.0 _ k.1 h))

        assigns : (x : ℕ) → wholes.assigns x site.action.act ≡ true → IsFixed muts x → was_assigned w x ≡ false
        assigns x h fixed = is_false (was_assigned w x) (λ u. true≢false
            (sym ((facts.assigned all_reached p x below (slice_get_within muts x false fixed)).1 (w, way, u)) ∙ here.assigns x h fixed))

    pub initialised : Initialised F muts f
    initialised w a walk = let r = to_site w a walk in in_order w a r.at r.site r.is r.action r.way

  -- ---- it is not

  module _ (sized : IsSized s.frame.now) (total : s.layout.now.total ≡ all_parts F.sizes F.types) (p : ℕ) (site : Site) (is : site_at g p ≡ Some site) where
    within : p < length g
    within = site_within g p site is

    looked_unset : (q : core.Place) → LooksIll F t.unset.rows p site.action.act q → IsUnset F f site.action.node (placed q.var q.steps)
    looked_unset q ill =
        let n = ill.1.0 in let h = (facts.unset all_reached p n within (omega (arith, part_below F sized (placed q.var q.steps) n ill.1.1, total))).0 ill.1.2 in
        looked h.0 site.action (walk_to p h.0 site h.1 is) refl ill.0 (n, ill.1.1, not_false (is_set F h.0 n) (sym (unset_after n h.0) ∙ h.2))

    entered_lost : (q : core.Place) → EntersIll s.watched.now t.lost.rows p site.action.act q → IsUnset F f site.action.node (placed q.var q.steps)
    entered_lost q ill =
        let k = ill.1.0 in let h = (facts.lost all_reached p k within (slice_get_within s.watched.now k q ill.1.1)).0 ill.1.2 in
        entered h.0 site.action q.var q.steps (walk_to p h.0 site h.1 is) refl refl ill.0 (not_false (stands h.0 q.var q.steps) (sym (lost_after k q.var q.steps h.0 ill.1.1) ∙ h.2))

    assigned_again : (x : ℕ) → AssignsIll muts t.assigned.rows p site.action.act x → IsAgain muts f site.action.node x
    assigned_again x ill =
        let h = (facts.assigned all_reached p x within (slice_get_within muts x false ill.1)).0 ill.2 in
        again h.0 site.action (walk_to p h.0 site h.1 is) refl ill.0 ill.1 h.2

    abbrev Told : InitFault → Type 0
    Told (fault.Unset n q) = IsUnset F f n (placed q.var q.steps)
    Told (fault.Again n x) = IsAgain muts f n x
    Told fault.OutOfMemory = Unit {0}

    pub told : (x : InitFault) → Ill s muts t p site.action x → Told x
    told (fault.Unset n q) (inl h) = subst (λ n. IsUnset F f n (placed q.var q.steps)) (sym h.0) (looked_unset q h.1)
    told (fault.Unset n q) (inr (inl h)) = subst (λ n. IsUnset F f n (placed q.var q.steps)) (sym h.0) (entered_lost q h.1)
    told (fault.Unset n q) (inr (inr h)) = absurd h
    told (fault.Again n x) (inl h) = absurd h
    told (fault.Again n x) (inr (inl h)) = absurd h
    told (fault.Again n x) (inr (inr h)) = subst (λ n. IsAgain muts f n x) (sym h.0) (assigned_again x h.1)
    told fault.OutOfMemory h = tt

-- ---- what is answered

pub answers_ok : (s : Setup) (muts : List Bool) (t : Facts) (g : List Site) → IsFacts s g (length muts) t → IsSized s.frame.now → IsLayout (plain-Frame s.frame.now) s.layout.now
    → KeepsForAll s.watched.now g → AllWell s muts t g → (table : InitTable) → table.set ≡ t.set → table.unset ≡ t.unset → table.layout ≡ s.layout.now
    → (f : Function) → g ≡ graph f → Initialised (plain-Frame s.frame.now) muts f × IsInitTable (plain-Frame s.frame.now) g table
answers_ok s muts t g facts sized layout kept well table a b c f e = (
  initialised s muts t g facts f e sized layout.total kept well,
  record {
    layout = subst (λ (l : Layout). IsLayout (plain-Frame s.frame.now) l) (sym c) layout;
    set = λ p n within less. subst (λ (x : Table). (at x.rows p n ≡ true) ↔ ((w : List Action) × Arrives g 0 w p × (is_set (plain-Frame s.frame.now) w n ≡ true))) (sym a)
        (facts.set (all_reached s muts t g facts f e) p n within (subst (λ (l : Layout). n < l.total) c less));
    unset = λ p n within less. subst (λ (x : Table). (at x.rows p n ≡ true) ↔ ((w : List Action) × Arrives g 0 w p × (is_set (plain-Frame s.frame.now) w n ≡ false))) (sym b)
        (let h = facts.unset (all_reached s muts t g facts f e) p n within (subst (λ (l : Layout). n < l.total) c less) in (
          (λ x. let w = h.0 x in (w.0, w.1, not_false (is_set (plain-Frame s.frame.now) w.0 n) (sym (unset_after s muts t g facts f e n w.0) ∙ w.2))),
          (λ w. h.1 (w.0, w.1, unset_after s muts t g facts f e n w.0 ∙ ap not w.2)),
        ));
  },
)

pub answers_err : (s : Setup) (muts : List Bool) (t : Facts) (g : List Site) → IsFacts s g (length muts) t → IsSized s.frame.now → IsLayout (plain-Frame s.frame.now) s.layout.now
    → (x : InitFault) → SomeIll s muts t g x → Answers (plain-Frame s.frame.now) muts g (Err x)
answers_err s muts t g facts sized layout (fault.Unset n q) ill = λ f e. told s muts t g facts f e sized layout.total ill.0 ill.1 ill.2 (fault.Unset n q) ill.3
answers_err s muts t g facts sized layout (fault.Again n x) ill = λ f e. told s muts t g facts f e sized layout.total ill.0 ill.1 ill.2 (fault.Again n x) ill.3
answers_err s muts t g facts sized layout fault.OutOfMemory ill = tt
