-- What is live on a walk of the text with marks, from where a history has come to, is living there: a use finds its variable standing,
-- so none lies ahead behind the begin of the variable and in front of a write of the whole.
use Rattle.std.proofs.Common.{◌≡◌, ◌⊎◌, inl, inr, ℕ, Bool, true, false, not, ◌&&◌, ◌||◌, ◌==◌, List, [], ◌∷◌, ◌++◌, map, refl, sym, ap, ◌∙◌, subst, true≢false}
use Rattle.std.proofs.lemmas.Bool.Decides.{Decides-eqb}
use Rattle.rx_core.specs.declared.types.Step.{Step}
use Rattle.rx_typed.specs.Tree.{Root, variable, temporary, Temporary, Function}
use Rattle.rx_typed.specs.TypedPlaces.{same_root}
use Rattle.rx_lower_walks.specs.Actions.{Act, Declare, Dead, Read, Write, Borrow, Test, Call, Build, Input, Print, Give, Action}
use Rattle.rx_lower_walks.specs.Orders.{order_function}
use Rattle.rx_lower_walks.specs.Walks.{Walk, IsWalk, Among}
use Rattle.rx_facts_tables.specs.Along.{after, ahead}
use Rattle.rx_facts_tables.specs.Live.{living, has_root, used, written, roots_of, whole, entered}
use Rattle.rx_facts_tables.specs.Wholes.{regains, loses, begins, standing}
use Rattle.rx_exits_plan.specs.Points.{enters}
use Rattle.rx_exits_plan.specs.Marked.{shown, marked}
use Rattle.rx_exits_plan.proofs.Marks.{none_new}
use Rattle.rx_exits_plan.specs.Asked.{Asked}
use Rattle.rx_exits_plan.specs.Plan.{Plan, IsPlan}
use Rattle.rx_engine_simulation.specs.Histories.{IsRoot, IsWhole, Declares, WritesWhole, Uses, Living, now, later}
use Rattle.rx_engine_simulation.specs.Programs.{back, IsHistory, Untouched, facts_of}
use Rattle.rx_engine_related.specs.Reads.{entry_read, Wider}
use Rattle.rx_engine_related.specs.AboutRun.{text_of}
use Rattle.rx_engine_related.specs.Accepted.{Accepted}
use Rattle.rx_engine_related.proofs.Since.{since, after_back, next_walk}
use Rattle.rx_engine_related.proofs.Setting.{either}
use Rattle.rx_engine_related.proofs.Blind.{setting_blind, standing_blind, after_alike}
use Rattle.rx_engine_related.proofs.Plainly.{Acts, of_held, Behind, behind_mark, LastOf, held, read, last_wider, without_reads, after_wider}
use Rattle.rx_engine_related.proofs.Points.{standing_unturned, stands_when_set}
use Rattle.rx_engine_related.proofs.Choosing.{param_named}
use Rattle.rx_engine_related.proofs.Unset.{uses_bare, bare_act, uses_unmarked, used_stands, regained}
use Rattle.rx_facts_tables.specs.Setting.{setting}
use Rattle.rx_meaning_keeping.proofs.Lost.{after_append}
use Rattle.rx_meaning_keeping.proofs.Parts.{parted}

-- ---- uses and writes, as liveness has them

is_here : (r : Root) (x : ℕ) → same_root (variable x) r || false ≡ true → IsRoot r x
is_here (variable y) x e = (Decides-eqb x y).0 (only (x == y) e)
  where
    only : (b : Bool) → b || false ≡ true → b ≡ true
    only true e = refl
    only false e = e
is_here (temporary t) x e = true≢false (sym e)

none_temporary : (ts : List Temporary) (x : ℕ) → has_root (map temporary ts) (variable x) ≡ true → ⊥
none_temporary [] x e = true≢false (sym e)
none_temporary (t ∷ ts) x e = none_temporary ts x e

entered_here : (r : Root) (ss : List Step) (x : ℕ) → has_root (entered r ss) (variable x) ≡ true → IsRoot r x × (IsWhole ss → ⊥)
entered_here r [] x e = absurd (true≢false (sym e))
entered_here r (s ∷ ss) x e = (is_here r x e, λ k. k)

root_uses : (a : Act) (x : ℕ) → has_root (used a) (variable x) ≡ true → Uses a x
root_uses (Read m p d) x e = is_here p.root x e
root_uses (Borrow k p d) x e = is_here p.root x e
root_uses (Test p c) x e = is_here p.root x e
root_uses (Write p t ss) x e = entered_here p.root p.steps x e
root_uses (Declare y) x e = true≢false (sym e)
root_uses (Dead y) x e = true≢false (sym e)
root_uses (Call f ts d) x e = none_temporary ts x e
root_uses (Build w js ts d) x e = none_temporary ts x e
root_uses (Input d) x e = true≢false (sym e)
root_uses (Print t) x e = true≢false (sym e)
root_uses (Give t) x e = true≢false (sym e)

same_here : (r : Root) (x : ℕ) → IsRoot r x → same_root (variable x) r || false ≡ true
same_here (variable y) x e = ap (λ b. b || false) ((Decides-eqb x y).1 e)
same_here (temporary t) x e = absurd e

whole_here : (r : Root) (ss : List Step) (x : ℕ) → IsRoot r x → IsWhole ss → has_root (roots_of (whole r ss)) (variable x) ≡ true
whole_here r [] x i w = same_here r x i
whole_here r (s ∷ ss) x i w = absurd w

whole_kills : (a : Act) (x : ℕ) → WritesWhole a x → has_root (roots_of (written a)) (variable x) ≡ true
whole_kills (Write p t ss) x w = whole_here p.root p.steps x w.0 w.1
whole_kills (Read m p d) x w = absurd w
whole_kills (Borrow k p d) x w = absurd w
whole_kills (Test p c) x w = absurd w
whole_kills (Declare y) x w = absurd w
whole_kills (Dead y) x w = absurd w
whole_kills (Call f ts d) x w = absurd w
whole_kills (Build v js ts d) x w = absurd w
whole_kills (Input d) x w = absurd w
whole_kills (Print t) x w = absurd w
whole_kills (Give t) x w = absurd w

begun_lost : (a : Act) (x : ℕ) (b : Bool) → begins x a ≡ true → regains x [] a || (not (loses x [] a) && b) ≡ false
begun_lost (Declare y) x b e = ap (λ c. not (c && true) && b) e
begun_lost (Dead y) x b e = absurd (true≢false (sym e))
begun_lost (Read m p d) x b e = absurd (true≢false (sym e))
begun_lost (Write p t ss) x b e = absurd (true≢false (sym e))
begun_lost (Borrow k p d) x b e = absurd (true≢false (sym e))
begun_lost (Test p c) x b e = absurd (true≢false (sym e))
begun_lost (Call f ts d) x b e = absurd (true≢false (sym e))
begun_lost (Build w js ts d) x b e = absurd (true≢false (sym e))
begun_lost (Input d) x b e = absurd (true≢false (sym e))
begun_lost (Print t) x b e = absurd (true≢false (sym e))
begun_lost (Give t) x b e = absurd (true≢false (sym e))

declares_begins : (a : Act) (x : ℕ) → Declares a x → begins x a ≡ true
declares_begins (Declare y) x e = (Decides-eqb y x).1 (sym e)
declares_begins (Dead y) x e = absurd e
declares_begins (Read m p d) x e = absurd e
declares_begins (Write p t ss) x e = absurd e
declares_begins (Borrow k p d) x e = absurd e
declares_begins (Test p c) x e = absurd e
declares_begins (Call f ts d) x e = absurd e
declares_begins (Build w js ts d) x e = absurd e
declares_begins (Input d) x e = absurd e
declares_begins (Print t) x e = absurd e
declares_begins (Give t) x e = absurd e

second_true : (k b : Bool) → not k && b ≡ true → (k ≡ true → ⊥) × (b ≡ true)
second_true true b e = absurd (true≢false (sym e))
second_true false b e = ((λ q. true≢false (sym q)), e)

still_lost : (g k b : Bool) → (g ≡ true → ⊥) → b ≡ false → g || (not k && b) ≡ false
still_lost true k b n e = absurd (n refl)
still_lost false true b n e = refl
still_lost false false b n e = e

-- ---- every use finds its variable standing, also where the run is entered

module _ (A : Asked) (muts : List Bool) (acc : Accepted A muts) (k : Plan) (p : IsPlan A k) (x : ℕ) where
  -- a read where the run is entered: the variable is a param, so it is set there
  read_stands : Among x k.params → (w : List Action) → IsWalk (marked A.run A.home.around.loops [] A.function) w → Behind false w → after (standing x []) w false ≡ true
  read_stands i w h (behind_mark v) =
      let z = param_named A k p x i in
      let part = acc.named x z.0 in
      let b = none_new A.function A.run A.home.around.loops (v ++ shown enters ∷ []) h in
      let e = after_alike (setting A.frame part.0) (setting_blind A.frame part.0) (v ++ shown enters ∷ []) b.0 b.2 in
      let s = stands_when_set A.frame (parted A.frame acc.sized) muts A.function acc.initialised x part.0 part.1 b.0 b.1 (sym e ∙ set_behind v part.0 (z.1 v h part.0 part.1)) in
      after_alike (standing x []) (standing_blind x []) (v ++ shown enters ∷ []) b.0 b.2 ∙ s
    where
      set_behind : (u : List Action) (n : ℕ) → after (setting A.frame n) u false ≡ true → after (setting A.frame n) (u ++ shown enters ∷ []) false ≡ true
      set_behind u n e = after_append (setting A.frame n) u (shown enters) false ∙ e

  pub found_standing : (a : Action) (h : List Action) → IsHistory (text_of A k) (a ∷ h) → Uses a.act x → since (standing x []) h ≡ true
  found_standing a h q u = sym (after_back (standing x []) h []) ∙ by (last_wider (back h []) a z.0 z.2)
    where
      z : (w : List Action) × IsWalk (marked A.run A.home.around.loops [] A.function) w × Wider k.params false w (back h [] ++ a ∷ [])
      z = without_reads A.function A.run A.home.around.loops k.params (back h [] ++ a ∷ []) (next_walk (text_of A k) a h q)

      of_own : Acts A.function (back h []) a (standing x []) → after (standing x []) (back h []) false ≡ true
      of_own y =
          let v : Uses y.action.act x = subst (λ (T : Type 0). T) (uses_bare y.action.act x) (subst (λ c. Uses c x) (sym (bare_act y.action a y.bare)) (subst (λ (T : Type 0). T) (sym (uses_bare a.act x)) u)) in
          y.same ∙ used_stands A muts acc y.list y.action.node y.action.act x y.walk v

      of_read : (y : ℕ) → Among y k.params → a ≡ entry_read y → Among x k.params
      of_read y i e = its (subst (λ (b : Action). Uses b.act x) e u)
        where
          its : x ≡ y → Among x k.params
          its q = subst (λ c. Among c k.params) (sym q) i

      by : LastOf k.params false a (back h []) z.0 → after (standing x []) (back h []) false ≡ true
      by (held v e w) = of_own (of_held A.function A.run A.home.around.loops k.params (back h []) a (standing x []) (standing_blind x []) (standing_unturned x k.params) (uses_unmarked a.act x u) v (subst (λ l. IsWalk (marked A.run A.home.around.loops [] A.function) l) e z.1) w)
      by (read y i e m w) = after_wider (standing x []) (standing_unturned x k.params) w false ∙ read_stands (of_read y i e) z.0 z.1 m

-- ---- where each use finds its variable standing

module _ (f : Function) (x : ℕ) (found : (a : Action) (h : List Action) → IsHistory f (a ∷ h) → Uses a.act x → since (standing x []) h ≡ true) where
  first_history : (a : Action) (h us : List Action) → IsWalk f (back h (a ∷ us)) → IsHistory f (a ∷ h)
  first_history a h us q = (us ++ q.0, q.1, subst (λ l. Walk (order_function f) l q.1) (again (a ∷ h) us q.0) q.2)
    where
      again : (h us r : List Action) → back h us ++ r ≡ back h (us ++ r)
      again [] us r = refl
      again (b ∷ h) us r = again h (b ∷ us) r

  -- none lies ahead where it does not stand
  pub lost_not_ahead : (us h : List Action) → IsWalk f (back h us) → since (standing x []) h ≡ false → ahead (living (variable x)) us ≡ true → ⊥
  lost_not_ahead [] h w e q = true≢false (sym q)
  lost_not_ahead (a ∷ us) h w e q = by (λ d g. lost_not_ahead us (a ∷ h) w d g) (either (has_root (used a.act) (variable x)) (not (has_root (roots_of (written a.act)) (variable x)) && ahead (living (variable x)) us) q)
    where
      by : (since (standing x []) (a ∷ h) ≡ false → ahead (living (variable x)) us ≡ true → ⊥) → (has_root (used a.act) (variable x) ≡ true) ⊎ ((not (has_root (roots_of (written a.act)) (variable x)) && ahead (living (variable x)) us) ≡ true) → ⊥
      by ih (inl g) = true≢false (sym (found a h (first_history a h us w) (root_uses a.act x g)) ∙ e)
      by ih (inr g) =
          let z = second_true (has_root (roots_of (written a.act)) (variable x)) (ahead (living (variable x)) us) g in
          ih (still_lost (regains x [] a.act) (loses x [] a.act) (since (standing x []) h) (λ r. z.0 (whole_kills a.act x (regained x a.act r))) e) z.1

  pub ahead_living : (m : List ℕ) (u : Untouched f (record { special = m; asked = [] })) (us h : List Action) → IsWalk f (back h us) → ahead (living (variable x)) us ≡ true
      → Living (facts_of f (record { special = m; asked = [] }) u) x h
  ahead_living m u [] h w q = absurd (true≢false (sym q))
  ahead_living m u (a ∷ us) h w q =
      by (λ g. ahead_living m u us (a ∷ h) w g) (λ d g. lost_not_ahead us (a ∷ h) w d g) (either (has_root (used a.act) (variable x)) (not (has_root (roots_of (written a.act)) (variable x)) && ahead (living (variable x)) us) q)
    where
      by : (ahead (living (variable x)) us ≡ true → Living (facts_of f (record { special = m; asked = [] }) u) x (a ∷ h)) → (since (standing x []) (a ∷ h) ≡ false → ahead (living (variable x)) us ≡ true → ⊥)
          → (has_root (used a.act) (variable x) ≡ true) ⊎ ((not (has_root (roots_of (written a.act)) (variable x)) && ahead (living (variable x)) us) ≡ true) → Living (facts_of f (record { special = m; asked = [] }) u) x h
      by ih none (inl g) = now a (first_history a h us w) (root_uses a.act x g)
      by ih none (inr g) = its (begins x a.act) refl
        where
          z : (has_root (roots_of (written a.act)) (variable x) ≡ true → ⊥) × (ahead (living (variable x)) us ≡ true)
          z = second_true (has_root (roots_of (written a.act)) (variable x)) (ahead (living (variable x)) us) g

          its : (b : Bool) → begins x a.act ≡ b → Living (facts_of f (record { special = m; asked = [] }) u) x h
          its true e = absurd (none (begun_lost a.act x (since (standing x []) h) e) z.1)
          its false e = later a (λ c. no_kill c) (ih z.1)
            where
              no_kill : Declares a.act x ⊎ WritesWhole a.act x → ⊥
              no_kill (inl d) = true≢false (sym (declares_begins a.act x d) ∙ e)
              no_kill (inr v) = z.0 (whole_kills a.act x v)
