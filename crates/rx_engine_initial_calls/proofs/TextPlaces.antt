-- The function with marks and with reads of the plan's params where the run is entered looks at places with parts alone.
use Rattle.std.proofs.Common.{◌≡◌, ℕ, Bool, true, false, List, [], ◌∷◌, ◌++◌, Some, refl, sym, ◌∙◌, subst, ap}
use Rattle.rx_core.specs.declared.types.Step.{Step}
use Rattle.rx_typed.specs.Tree.{Root, variable, Place, own}
use Rattle.rx_lower_walks.specs.Actions.{Act, Declare, Dead, Read, Write, Borrow, Test, Call, Build, Input, Print, Give, Action}
use Rattle.rx_lower_walks.specs.Walks.{IsWalk, Among}
use Rattle.rx_facts_tables.specs.Along.{after}
use Rattle.rx_facts_tables.specs.Setting.{is_behind, looked_at, AllSet}
use Rattle.rx_facts_tables.specs.Wholes.{placed, standing}
use Rattle.rx_meaning_keeping.specs.Ready.{HasPart}
use Rattle.rx_exits_plan.specs.Marked.{marked}
use Rattle.rx_exits_plan.specs.Unmarked.{is_mark, unfilled}
use Rattle.rx_exits_plan.specs.Asked.{Asked}
use Rattle.rx_exits_plan.specs.Plan.{Plan, IsPlan, variables_of}
use Rattle.rx_engine_related.specs.Reads.{Wider}
use Rattle.rx_engine_related.specs.AboutRun.{text_of}
use Rattle.rx_engine_related.specs.Accepted.{Accepted}
use Rattle.rx_engine_related.proofs.Blind.{standing_blind}
use Rattle.rx_engine_related.proofs.Plainly.{without_reads, LastOf, held, read, last_wider, Acts, of_held}
use Rattle.rx_engine_related.proofs.Choosing.{param_named}
use Rattle.rx_engine_initial.specs.Variables.{standing_in}
use Rattle.rx_engine_initial.proofs.Ways.{no}
use Rattle.rx_engine_initial.proofs.Uses.{some_is, none_is}
use Rattle.rx_engine_initial.proofs.Planned.{text_initialised}
use Rattle.rx_engine_initial_calls.proofs.Lent.{all_stand}

looks_same : (a : Act) → looked_at (unfilled a) ≡ looked_at a
looks_same (Read m p d) = refl
looks_same (Borrow k p d) = refl
looks_same (Call f ts d) = refl
looks_same (Build w is ts d) = refl
looks_same (Input d) = refl
looks_same (Declare x) = refl
looks_same (Dead x) = refl
looks_same (Write p t ss) = refl
looks_same (Test p c) = refl
looks_same (Print t) = refl
looks_same (Give t) = refl

mark_looks : {A : Type 0} (a : Act) (p : Place) → is_mark a ≡ true → looked_at a ≡ Some p → A
mark_looks (Build w is ts d) p m e = none_is e
mark_looks (Read v q d) p m e = no m
mark_looks (Borrow k q d) p m e = no m
mark_looks (Call f ts d) p m e = none_is e
mark_looks (Input d) p m e = none_is e
mark_looks (Declare x) p m e = none_is e
mark_looks (Dead x) p m e = none_is e
mark_looks (Write q t ss) p m e = none_is e
mark_looks (Test q c) p m e = no m
mark_looks (Print t) p m e = none_is e
mark_looks (Give t) p m e = none_is e

abbrev number_of : Root → ℕ
number_of (variable x) = x
number_of _ = 0

module _ (A : Asked) (muts : List Bool) (acc : Accepted A muts) (k : Plan) (plan : IsPlan A k) where
  text_places : (x : ℕ) (w : List Action) (a : Action) (ss : List Step) → IsWalk (text_of A k) (w ++ a ∷ []) → looked_at a.act ≡ Some (placed x ss) → HasPart A.frame x ss
  text_places x w a ss c e = by (is_mark a.act) refl (last_wider w a z.0 z.2)
    where
      z : (v : List Action) × IsWalk (marked A.run A.home.around.loops [] A.function) v × Wider k.params false v (w ++ a ∷ [])
      z = without_reads A.function A.run A.home.around.loops k.params (w ++ a ∷ []) c

      of_text : Acts A.function w a (standing x []) → HasPart A.frame x ss
      of_text r = acc.places r.list r.action x ss r.walk (sym (looks_same r.action.act) ∙ ap (λ (b : Action). looked_at b.act) r.bare ∙ looks_same a.act ∙ e)

      of_read : (y : ℕ) → Among y k.params → Some (own y) ≡ Some (placed x ss) → HasPart A.frame x ss
      of_read y i q = let g = some_is q in
          subst (λ rs. HasPart A.frame x rs) (ap (λ (p : Place). p.steps) g) (subst (λ n. HasPart A.frame n []) (ap (λ (p : Place). number_of p.root) g) (acc.named y (param_named A k plan y i).0))

      by : (b : Bool) → is_mark a.act ≡ b → LastOf k.params false a w z.0 → HasPart A.frame x ss
      by true m l = mark_looks a.act (placed x ss) m e
      by false m (held v q h) = of_text (of_held A.function A.run A.home.around.loops k.params w a (standing x []) (standing_blind x []) (λ y i. (refl, refl)) m v
          (subst (λ l. IsWalk (marked A.run A.home.around.loops [] A.function) l) q z.1) h)
      by false m (read y i q b h) = of_read y i (sym (ap (λ (b : Action). looked_at b.act) q) ∙ e)

  pub lent_stands : (x : ℕ) → Among x (variables_of A) → (w : List Action) → IsWalk (text_of A k) w → AllSet A.frame w (own x) → (qs : List Step) → is_behind qs ≡ false
      → after (standing_in x qs) w false ≡ true
  lent_stands x i w c s qs plain = all_stand A.frame acc.sized muts (text_of A k) (text_initialised A muts acc k plan) x (λ v a ss h e. text_places x v a ss h e) (acc.named x i) w c s qs plain
