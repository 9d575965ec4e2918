-- What is found of a run, and of its params, as the conditions say it.
use Rattle.std.proofs.Common.{◌≡◌, ℕ, Bool, List, refl, ap}
use Rattle.rx_typed_runs.specs.declared.runs.RunPos.{RunPos}
use Rattle.rx_typeck_typed.specs.declared.typed.TypedFn.{TypedFn}
use Rattle.rx_exits_plan.specs.Runs.{Home}
use Rattle.rx_exits_plan.specs.Asked.{Asked}
use Rattle.rx_exits_plan.specs.Plan.{Plan}
use Rattle.rx_exits_plan.specs.PlainPlan.{plan_of}
use Rattle.rx_exits_plan.specs.Unreachable.{Endless}
use Rattle.rx_exits_plan.specs.declared.plan.ExitPlan.{ExitPlan}
use Rattle.rx_exits.specs.Asking.{IsReached, Hinders, plain-At}
use Rattle.rx_exits.specs.Refusing.{Answers, Refuses}
use Rattle.rx_exits.specs.declared.answering.ExitFault.{ExitFault}
use Rattle.rx_exits.specs.declared.planning.Planned.{Planned}
use Rattle.rx_exits.specs.declared.reaching.ReachFault.{ReachFault}
use Rattle.rx_modes.specs.Answer as modes
use Rattle.rx_modes.specs.declared.plan.ModeFault.{ModeFault}
use Rattle.rx_modes.specs.declared.plan.ModePlan.{ModePlan}
use Rattle.rx_modes_policy.specs.declared.uses.Mode.{Mode}
use Rattle.rx_modes_policy.specs.declared.uses.Uses.{Uses}
use Rattle.rx_hoist_plan.specs.declared.plan.NamedPlan.{NamedPlan}
use Rattle.rx_hoist_plan.specs.PlainPlan.{plain-Plan}
use Rattle.rx_engine_extraction.specs.declared.refusal.Fault.{Fault}
use Rattle.rx_engine_extraction.specs.declared.refusal.Fault.TheVariants as fault
use Rattle.rx_engine_extraction.specs.declared.refusal.Refusal.{Refusal}
use Rattle.rx_engine_extraction.specs.declared.refusal.Refusal.TheVariants as refusal
use Rattle.rx_engine_extraction.specs.Source.{Text}
use Rattle.rx_engine_extraction.specs.Case.{Case, asked}
use Rattle.rx_engine_extraction.specs.Made.{named}
use Rattle.rx_engine_extraction.specs.Meeting.{Seated, same_name}
use Rattle.rx_engine_extraction.specs.Deciding.{case_at, with_modes, wish_by, nothing_asked, of_exits, of_modes, of_reach, IsEntered, IsPlanned, IsUnplanned, IsNotPassed, IsUnpassed, IsDecided, IsNotDecided, IsUndecided}

pub modes_stop : (A : Asked) (f : TypedFn) (k : ExitPlan) (x : ModeFault) → modes.IsRefused A f.mutable (plan_of A k) x → IsUnpassed A f k (of_modes f x)
modes_stop A f k (ModeFault.NotMut x) m = (x, refl, m)
modes_stop A f k (ModeFault.Aliased x) m = (x, refl, m.0, m.1)
modes_stop A f k ModeFault.OutOfMemory m = tt

module _ (T : Text) (r : RunPos) (f : TypedFn) (h : Home) (seated : Seated T r f h) where
  abbrev at : Case
  at = case_at r f h

  abbrev A : Asked
  A = asked T at

  abbrev same : ℕ → ℕ → Bool
  same = same_name T nothing_asked at

  entered : IsReached A × (Endless A → ⊥) → IsEntered T at
  entered e = record { reached = (seated, e.0); left = e.1 }

  pub reach_stops : (x : ReachFault) → Hinders A x → IsUnplanned T at (of_reach T.program f r x)
  reach_stops (ReachFault.Unreachable q) e = (seated, plain-At q, refl, e)
  reach_stops ReachFault.Endless e = ((seated, e.0), (refl, e.1))
  reach_stops ReachFault.OutOfMemory e = tt

  pub exits_stop : (x : ExitFault) → IsReached A × (Endless A → ⊥) → Refuses A same x → IsUnplanned T at (of_exits f x)
  exits_stop (ExitFault.MixedInit x) e m = (entered e, (x, refl, m))
  exits_stop (ExitFault.PartlyMoved x) e m = (record { entered = entered e; settled = m.mixed }, (x, refl, (m.plan, m.is_plan, m.first)))
  exits_stop (ExitFault.Shadowed x) e m =
      (m.plan, record { settled = record { entered = entered e; settled = m.mixed }; whole = (m.is_plan, m.partly) }, (x, refl, m.first))
  exits_stop ExitFault.OutOfMemory e m = tt

  pub exits_planned : (p : Planned) → IsReached A × (Endless A → ⊥) → Answers A same p → IsPlanned T at p.plan
  exits_planned p e a = record {
    listed = a.plan;
    whole = record { settled = record { entered = entered e; settled = a.mixed }; whole = (a.plan.plan, a.partly) };
    visible = a.shadowed;
    agree = a.agree;
  }

  -- ---- how params are passed

  not_passed : (k : ExitPlan) → IsPlanned T at k → (x : Refusal) → IsNotPassed A f (plan_of A k) x → IsNotDecided T at x
  not_passed k p (refusal.NotMut s) m = (k, p, (m.0, ap (λ q. refusal.NotMut q) m.1, m.2))
  not_passed k p (refusal.Aliased s) m = (k, p, m.2, (m.0, ap (λ q. refusal.Aliased q) m.1, m.3))
  not_passed k p refusal.NotARun m = absurd m
  not_passed k p refusal.BadName m = absurd m
  not_passed k p refusal.NameTaken m = absurd m
  not_passed k p (refusal.Unreachable s) m = absurd m
  not_passed k p refusal.Endless m = absurd m
  not_passed k p (refusal.MixedInit s) m = absurd m
  not_passed k p (refusal.PartlyMoved s) m = absurd m
  not_passed k p (refusal.Shadowed s) m = absurd m
  not_passed k p (refusal.Limit w n) m = absurd m
  not_passed k p (refusal.Unfit e) m = absurd m
  not_passed k p (refusal.Region i l j) m = absurd m
  not_passed k p (refusal.Loan a b) m = absurd m
  not_passed k p refusal.Unconfirmed m = absurd m

  pub unpassed_stops : (k : ExitPlan) → IsPlanned T at k → (x : Fault) → IsUnpassed A f k x → IsUndecided T at x
  unpassed_stops k p (fault.Refused x) m = not_passed k p x m
  unpassed_stops k p fault.OutOfMemory m = tt
  unpassed_stops k p (fault.Syntax e) m = absurd m
  unpassed_stops k p (fault.NotAccepted e) m = absurd m

  pub unplanned_stops : (x : Fault) → IsUnplanned T at x → IsUndecided T at x
  unplanned_stops (fault.Refused (refusal.Unreachable s)) m = m
  unplanned_stops (fault.Refused refusal.Endless) m = m
  unplanned_stops (fault.Refused (refusal.MixedInit s)) m = m
  unplanned_stops (fault.Refused (refusal.PartlyMoved s)) m = m
  unplanned_stops (fault.Refused (refusal.Shadowed s)) m = m
  unplanned_stops (fault.Refused (refusal.NotMut s)) m = absurd m
  unplanned_stops (fault.Refused (refusal.Aliased s)) m = absurd m
  unplanned_stops (fault.Refused refusal.NotARun) m = absurd m
  unplanned_stops (fault.Refused refusal.BadName) m = absurd m
  unplanned_stops (fault.Refused refusal.NameTaken) m = absurd m
  unplanned_stops (fault.Refused (refusal.Limit w n)) m = absurd m
  unplanned_stops (fault.Refused (refusal.Unfit e)) m = absurd m
  unplanned_stops (fault.Refused (refusal.Region i l k)) m = absurd m
  unplanned_stops (fault.Refused (refusal.Loan a b)) m = absurd m
  unplanned_stops (fault.Refused refusal.Unconfirmed) m = absurd m
  unplanned_stops fault.OutOfMemory m = tt
  unplanned_stops (fault.Syntax e) m = absurd m
  unplanned_stops (fault.NotAccepted e) m = absurd m

  pub is_decided : (name : List ℕ) (choice : Uses → Mode) (k : ExitPlan) (m : ModePlan) (pl : NamedPlan) → IsPlanned T at k
      → modes.HasModes A f.mutable (plan_of A k) choice m → plain-Plan pl ≡ named T (wish_by name choice) (with_modes T at k m.modes m.moved)
      → IsDecided T at name choice (record { plan = k; passed = m; named = pl })
  is_decided name choice k m pl p a e = record {
    planned = p;
    passable = a.each_has_one;
    unmoved = (a.none_is_aliased, record { listed = p.listed; agree = p.agree; plan = refl; are_modes = a.modes; are_moved = a.moved });
    named = e;
    given_away = a.given_away;
  }
