-- Where a function is initialised, so is the one with marks at the points of its run and reads of the params where it is entered. And what
-- the plan says of its params and locals holds where a walk of that text enters the run.
use Rattle.std.proofs.Common.{◌≡◌, ◌⊎◌, inl, inr, ℕ, Bool, true, false, not, ◌&&◌, ◌||◌, ◌==◌, List, [], ◌∷◌, ◌++◌, Option, Some, None, refl, sym, ◌∙◌, subst, ap}
use Rattle.rx_core.specs.declared.types.Step.{Step}
use Rattle.rx_typed.specs.Tree.{Temporary, Place, Function, own}
use Rattle.rx_lower_walks.specs.Actions.{Act, Declare, Dead, Read, Write, Borrow, Test, Call, Build, Input, Print, Give, Action, does}
use Rattle.rx_lower_walks.specs.Walks.{IsWalk, Among}
use Rattle.rx_facts_tables.specs.Along.{Switch, behind, after}
use Rattle.rx_facts_tables.specs.Places.{Frame, is_part}
use Rattle.rx_facts_tables.specs.Setting.{setting, is_set, looked_at, AllSet}
use Rattle.rx_facts_tables.specs.Wholes.{enters, assigns, begins, standing, stands, assigning, was_assigned, placed}
use Rattle.rx_facts_tables.specs.Initialised.{IsFixed, InOrder, Initialised}
use Rattle.rx_exits_plan.specs.Points as points
use Rattle.rx_exits_plan.specs.Marked.{shown, marked}
use Rattle.rx_exits_plan.specs.Unmarked.{is_mark, unfilled}
use Rattle.rx_exits_plan.specs.Asked.{Asked, IsParam, IsLocal}
use Rattle.rx_exits_plan.specs.Plan.{Plan, IsPlan}
use Rattle.rx_engine_related.specs.Reads.{entry_read, Wider}
use Rattle.rx_engine_related.specs.AboutRun.{marked_with, text_of}
use Rattle.rx_engine_related.specs.Accepted.{Accepted}
use Rattle.rx_engine_related.proofs.Blind.{Blind, setting_blind, standing_blind}
use Rattle.rx_engine_related.proofs.Plainly.{without_reads, LastOf, held, read, Behind, behind_mark, last_wider, Unturned, after_wider, Acts, of_held}
use Rattle.rx_engine_initial.proofs.Tracing.{after_one}
use Rattle.rx_engine_initial.proofs.Ways.{no, clash}
use Rattle.rx_engine_initial.proofs.Uses.{some_is, none_is}

-- ---- actions up to the temporaries that they fill

looks_same : (a : Act) → looked_at (unfilled a) ≡ looked_at a
looks_same (Read m p d) = refl
looks_same (Borrow k p d) = refl
looks_same (Call f ts d) = refl
looks_same (Build w is ts d) = refl
looks_same (Input d) = refl
looks_same (Declare x) = refl
looks_same (Dead x) = refl
looks_same (Write p t ss) = refl
looks_same (Test p c) = refl
looks_same (Print t) = refl
looks_same (Give t) = refl

enters_same : (x : ℕ) (qs : List Step) (a : Act) → enters x qs (unfilled a) ≡ enters x qs a
enters_same x qs (Read m p d) = refl
enters_same x qs (Borrow k p d) = refl
enters_same x qs (Call f ts d) = refl
enters_same x qs (Build w is ts d) = refl
enters_same x qs (Input d) = refl
enters_same x qs (Declare y) = refl
enters_same x qs (Dead y) = refl
enters_same x qs (Write p t ss) = refl
enters_same x qs (Test p c) = refl
enters_same x qs (Print t) = refl
enters_same x qs (Give t) = refl

assigns_same : (x : ℕ) (a : Act) → (assigns x (unfilled a) ≡ assigns x a) × (begins x (unfilled a) ≡ begins x a)
assigns_same x (Read m p d) = (refl, refl)
assigns_same x (Borrow k p d) = (refl, refl)
assigns_same x (Call f ts d) = (refl, refl)
assigns_same x (Build w is ts d) = (refl, refl)
assigns_same x (Input d) = (refl, refl)
assigns_same x (Declare y) = (refl, refl)
assigns_same x (Dead y) = (refl, refl)
assigns_same x (Write p t ss) = (refl, refl)
assigns_same x (Test p c) = (refl, refl)
assigns_same x (Print t) = (refl, refl)
assigns_same x (Give t) = (refl, refl)

assigns_none : (x : ℕ) (a : Act) → is_mark a ≡ true → (assigns x a ≡ false) × (begins x a ≡ false)
assigns_none x (Build w is ts d) e = (refl, refl)
assigns_none x (Read m p d) e = no e
assigns_none x (Borrow k p d) e = no e
assigns_none x (Call f ts d) e = no e
assigns_none x (Input d) e = no e
assigns_none x (Declare y) e = no e
assigns_none x (Dead y) e = no e
assigns_none x (Write p t ss) e = no e
assigns_none x (Test p c) e = no e
assigns_none x (Print t) e = no e
assigns_none x (Give t) e = no e

assigning_blind : (x : ℕ) → Blind (assigning x)
assigning_blind x = record {
  gives_none = λ a e. (assigns_none x a.act e).0;
  kills_none = λ a e. (assigns_none x a.act e).1;
  gives_same = λ a. (assigns_same x a.act).0;
  kills_same = λ a. (assigns_same x a.act).1;
}

-- a mark needs nothing
mark_in_order : (F : Frame) (muts : List Bool) (w : List Action) (n : ℕ) (a : Act) → is_mark a ≡ true → InOrder F muts w (does n a)
mark_in_order F muts w n (Build m is ts d) e = record { looks = λ p e. none_is e; enters = λ x qs h. no h; assigns = λ x h i. no h }
mark_in_order F muts w n (Read m p d) e = no e
mark_in_order F muts w n (Borrow k p d) e = no e
mark_in_order F muts w n (Call f ts d) e = no e
mark_in_order F muts w n (Input d) e = no e
mark_in_order F muts w n (Declare y) e = no e
mark_in_order F muts w n (Dead y) e = no e
mark_in_order F muts w n (Write p t ss) e = no e
mark_in_order F muts w n (Test p c) e = no e
mark_in_order F muts w n (Print t) e = no e
mark_in_order F muts w n (Give t) e = no e

module _ (A : Asked) (muts : List Bool) (acc : Accepted A muts) (xs : List ℕ) where
  setting_unturned : (n : ℕ) → Unturned (setting A.frame n) xs
  setting_unturned n y i = (refl, refl)

  standing_unturned : (x : ℕ) (qs : List Step) → Unturned (standing x qs) xs
  standing_unturned x qs y i = (refl, refl)

  assigning_unturned : (x : ℕ) → Unturned (assigning x) xs
  assigning_unturned x y i = (refl, refl)

  -- ---- an action that is no mark and no read on entry

  module _ (w v : List Action) (a : Action) (m : is_mark a.act ≡ false) (h : IsWalk (marked A.run A.home.around.loops [] A.function) (v ++ a ∷ [])) (k : Wider xs false v w) where
    acts_as : (s : Switch) → Blind s → Unturned s xs → Acts A.function w a s
    acts_as s b t = of_held A.function A.run A.home.around.loops xs w a s b t m v h k

    same_act : {s : Switch} (z : Acts A.function w a s) → unfilled z.action.act ≡ unfilled a.act
    same_act z = ap (λ (c : Action). c.act) z.bare

    plain_looks : (p : Place) → looked_at a.act ≡ Some p → AllSet A.frame w p
    plain_looks p e n i = by (acts_as (setting A.frame n) (setting_blind A.frame n) (setting_unturned n))
      where
        by : Acts A.function w a (setting A.frame n) → is_set A.frame w n ≡ true
        by z = z.same ∙ (acc.initialised z.list z.action z.walk).looks p (sym (looks_same z.action.act) ∙ ap looked_at (same_act z) ∙ looks_same a.act ∙ e) n i

    plain_enters : (x : ℕ) (qs : List Step) → enters x qs a.act ≡ true → stands w x qs ≡ true
    plain_enters x qs e = by (acts_as (standing x qs) (standing_blind x qs) (standing_unturned x qs))
      where
        by : Acts A.function w a (standing x qs) → stands w x qs ≡ true
        by z = z.same ∙ (acc.initialised z.list z.action z.walk).enters x qs (sym (enters_same x qs z.action.act) ∙ ap (enters x qs) (same_act z) ∙ enters_same x qs a.act ∙ e)

    plain_assigns : (x : ℕ) → assigns x a.act ≡ true → IsFixed muts x → was_assigned w x ≡ false
    plain_assigns x e i = by (acts_as (assigning x) (assigning_blind x) (assigning_unturned x))
      where
        by : Acts A.function w a (assigning x) → was_assigned w x ≡ false
        by z = z.same ∙ (acc.initialised z.list z.action z.walk).assigns x (sym (assigns_same x z.action.act).0 ∙ ap (assigns x) (same_act z) ∙ (assigns_same x a.act).0 ∙ e) i

    plain_in_order : InOrder A.frame muts w a
    plain_in_order = record { looks = plain_looks; enters = plain_enters; assigns = plain_assigns }

  -- ---- a read on entry

  module _ (params : (y : ℕ) → Among y xs → IsParam A y) where
    read_set : (y : ℕ) → Among y xs → (w v : List Action) → Behind false v → IsWalk (marked A.run A.home.around.loops [] A.function) v → Wider xs false v w → AllSet A.frame w (own y)
    read_set y i w _ (behind_mark u) h k n j = after_wider (setting A.frame n) (setting_unturned n) k false ∙ after_one (setting A.frame n) u (shown points.enters) false ∙ params y i u h n j

    read_in_order : (y : ℕ) → Among y xs → (w v : List Action) → Behind false v → IsWalk (marked A.run A.home.around.loops [] A.function) v → Wider xs false v w → InOrder A.frame muts w (entry_read y)
    read_in_order y i w v b h k = record {
      looks = λ p e. subst (λ q. AllSet A.frame w q) (some_is e) (read_set y i w v b h k);
      enters = λ x qs e. no e;
      assigns = λ x e f. no e;
    }

    pub marked_is_initialised : Initialised A.frame muts (marked_with A xs)
    marked_is_initialised w a h = by (is_mark a.act) refl (last_wider w a z.0 z.2)
      where
        z : (v : List Action) × IsWalk (marked A.run A.home.around.loops [] A.function) v × Wider xs false v (w ++ a ∷ [])
        z = without_reads A.function A.run A.home.around.loops xs (w ++ a ∷ []) h

        by : (b : Bool) → is_mark a.act ≡ b → LastOf xs false a w z.0 → InOrder A.frame muts w a
        by true m l = mark_in_order A.frame muts w a.node a.act m
        by false m (held v e k) = plain_in_order w v a m (subst (λ l. IsWalk (marked A.run A.home.around.loops [] A.function) l) e z.1) k
        by false m (read y i e b k) = subst (λ c. InOrder A.frame muts w c) (sym e) (read_in_order y i w z.0 b z.1 k)
