-- What is answered of a run, by the uses of its params and by what is known of it.
use Rattle.std.proofs.Common.{◌≡◌, sym, ap, ◌∙◌, ℕ, Bool, List, map, Some, Result, Ok, Err, IfOk, IfErr, subst}
use Rattle.rx_lower_walks.specs.Walks.{Among, here, there}
use Rattle.rx_exits_plan.specs.Asked.{Asked, IsParam}
use Rattle.rx_exits_plan.specs.Plan.{Plan, Chosen, none, taken, left, variables_of}
use Rattle.rx_exits_plan.specs.declared.plan.ExitPlan.{ExitPlan}
use Rattle.rx_exits_plan.specs.PlainPlan.{plan_of, IsExitPlan}
use Rattle.rx_modes_policy.specs.declared.uses.Mode.{Mode}
use Rattle.rx_modes_policy.specs.declared.uses.Uses.{Uses}
use Rattle.rx_modes_uses.specs.Uses.{IsUses}
use Rattle.rx_modes_uses.specs.Modes.{IsModes}
use Rattle.rx_modes_uses.specs.NotMut.{NotMut}
use Rattle.rx_modes_uses.specs.Aliased.{IsAliased}
use Rattle.rx_modes_uses.proofs.One.{no_modes}
use Rattle.rx_modes_uses.proofs.Planned.{same_moves}
use Rattle.rx_modes.specs.declared.known.Known.{Known}
use Rattle.rx_modes.specs.declared.plan.ModePlan.{ModePlan}
use Rattle.rx_modes.specs.declared.plan.ModeFault.{ModeFault}
use Rattle.rx_modes.specs.declared.plan.ModeFault.TheVariants as fault
use Rattle.rx_modes.specs.Answer.{HasModes, IsRefused, IsAnswer}
use Rattle.rx_modes.specs.Told.{IsKnown, Each, AllPass, PassedBy, first_without, first_such, is_aliased}
use Rattle.rx_modes.proofs.Passing.{modes_passed, first_refused, moved_told, all_given_away}
use Rattle.rx_modes.proofs.Aliasing.{aliased_told, first_told, none_told}

module _ (A : Asked) (muts : List Bool) (known : Known) (K : IsKnown A muts known) (choice : Uses → Mode) (us : List Uses)
    (uses : Each (IsUses A muts (plan_of A known.plan.now)) known.plan.now.params us) where
  -- some param has no mode
  pub refused : (x : ℕ) → first_without known.plan.now.params us ≡ Some x → NotMut A muts (plan_of A known.plan.now) x
  refused x e = first_refused A muts (plan_of A known.plan.now) choice x uses e

  -- each has one
  pub answered : (xs : List ℕ) → xs ≡ variables_of A → AllPass us → (r : Result ModePlan ModeFault) → PassedBy known us xs choice r
      → IsAnswer A muts (plan_of A known.plan.now) choice r
  answered xs are all (Ok it) p = record {
    modes = has_modes;
    moved = p.1 ∙ moved_told A muts (plan_of A known.plan.now) choice (same_moves A muts (plan_of A known.plan.now)) uses;
    given_away = p.2 ∙ all_given_away A muts (plan_of A known.plan.now) choice uses;
    each_has_one = λ x n. no_modes A muts (plan_of A known.plan.now) choice x it.modes n has_modes;
    none_is_aliased = λ x. none_told (is_aliased known) (IsAliased A muts (plan_of A known.plan.now)) (aliased_told A muts known K) (variables_of A)
        (ap (first_such (is_aliased known)) (sym are) ∙ p.3) x;
  }
    where
      has_modes : IsModes A muts (plan_of A known.plan.now) choice it.modes
      has_modes = subst (IsModes A muts (plan_of A known.plan.now) choice) (sym p.0) (modes_passed A muts (plan_of A known.plan.now) choice uses all)
  answered xs are all (Err (fault.NotMut x)) p = absurd p
  answered xs are all (Err (fault.Aliased x)) p = (
    (λ y n. no_modes A muts (plan_of A known.plan.now) choice y (map choice us) n (modes_passed A muts (plan_of A known.plan.now) choice uses all)),
    first_told (is_aliased known) (IsAliased A muts (plan_of A known.plan.now)) (aliased_told A muts known K) (variables_of A) x
        (ap (first_such (is_aliased known)) (sym are) ∙ p),
  )
  answered xs are all (Err fault.OutOfMemory) p = tt

-- ---- as the callers ask

module _ (A : Asked) (muts : List Bool) (known : Known) (choice : Uses → Mode) (us vs : List Uses) (ps : List ℕ) where
  pub refused_by : (x : ℕ) → vs ≡ us → ps ≡ known.plan.now.params → Some x ≡ first_without ps vs → IsKnown A muts known
      → Each (IsUses A muts (plan_of A known.plan.now)) known.plan.now.params us → NotMut A muts (plan_of A known.plan.now) x
  refused_by x same are e K uses = refused A muts known K choice us uses x (sym (e ∙ ap (λ l. first_without l vs) are ∙ ap (first_without known.plan.now.params) same))

  pub answered_by : (xs : List ℕ) (r : Result ModePlan ModeFault) → vs ≡ us → xs ≡ variables_of A → AllPass vs → PassedBy known vs xs choice r → IsKnown A muts known
      → Each (IsUses A muts (plan_of A known.plan.now)) known.plan.now.params us → IsAnswer A muts (plan_of A known.plan.now) choice r
  answered_by xs r same are all p K uses =
      answered A muts known K choice us uses xs are (subst AllPass same all) r (subst (λ l. PassedBy known l xs choice r) same p)

chosen_holds : {Q : ℕ → Type 0} {l m : List ℕ} {x : ℕ} → Chosen Q l m → Among x m → Q x
chosen_holds none i = elim i [ ]
chosen_holds (taken q c) here = q
chosen_holds (taken q c) (there i) = chosen_holds c i
chosen_holds (left r c) i = chosen_holds c i

pub params_are_params : (A : Asked) (k : ExitPlan) → IsExitPlan A k → (x : ℕ) → Among x k.params → IsParam A x
params_are_params A k p x i = chosen_holds p.plan.params i

module _ (A : Asked) (muts : List Bool) (k : Plan) (choice : Uses → Mode) where
  pub answer_ok : (r : Result ModePlan ModeFault) → IsAnswer A muts k choice r → IfOk r (HasModes A muts k choice)
  answer_ok (Ok it) h = h
  answer_ok (Err e) h = tt

  pub answer_err : (r : Result ModePlan ModeFault) → IsAnswer A muts k choice r → IfErr r (IsRefused A muts k)
  answer_err (Ok it) h = tt
  answer_err (Err e) h = h
