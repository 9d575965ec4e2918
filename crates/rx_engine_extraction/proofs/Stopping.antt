-- A part that stops tells the first condition that is not met, where those in front are.
use Rattle.std.proofs.Common.{[], refl}
use Rattle.rx_typed_runs.specs.declared.runs.RunPos.{RunPos}
use Rattle.rx_typeck_typed.specs.declared.typed.TypedFn.{TypedFn}
use Rattle.rx_exits_plan.specs.Runs.{Home}
use Rattle.rx_exits_plan.specs.declared.plan.ExitPlan.{ExitPlan}
use Rattle.rx_engine_extraction.specs.declared.refusal.Fault.{Fault}
use Rattle.rx_engine_extraction.specs.declared.refusal.Fault.TheVariants as fault
use Rattle.rx_engine_extraction.specs.declared.refusal.Refusal.{Refusal}
use Rattle.rx_engine_extraction.specs.declared.refusal.Refusal.TheVariants as refusal
use Rattle.rx_engine_extraction.specs.Source.{Text, Wish}
use Rattle.rx_engine_extraction.specs.Case.{Case}
use Rattle.rx_engine_extraction.specs.Undecided.{undecided}
use Rattle.rx_engine_extraction.specs.Conditions as condition
use Rattle.rx_engine_extraction.specs.Conditions.{Condition}
use Rattle.rx_engine_extraction.specs.Failing.{Fails}
use Rattle.rx_engine_extraction.specs.Promise.{Stands}
use Rattle.rx_engine_extraction.specs.Verdict.{RefusedBy}
use Rattle.rx_engine_extraction.specs.Beginning.{IsChosen, IsUnchosen}
use Rattle.rx_engine_extraction.specs.Deciding.{case_at, with_plan, with_modes, IsPlanned, IsNotPlanned, IsNotDecided, IsUndecided}
use Rattle.rx_engine_extraction.specs.Hoisting.{IsStopped}

refused : (T : Text) (w : Wish) (d : Case) (c : Condition) (r : Refusal) → Stands T w d c → Fails T w d c r → RefusedBy T w r
refused T w d c r stands fails = record { case = d; condition = c; stands = stands; fails = fails }

-- only the run is known
abbrev running : RunPos → Case
running r = record undecided { run = r }

-- ---- the run and the name

pub unchosen : (T : Text) (w : Wish) (f : Fault) → IsUnchosen T.tokens T.length T.program w.start w.end w.name f → IsStopped T w f
unchosen T w (fault.Refused refusal.NotARun) h = refused T w undecided condition.selects refusal.NotARun tt (refl, h)
unchosen T w (fault.Refused refusal.BadName) h = refused T w (running h.0) condition.word refusal.BadName (h.1, tt) (refl, h.2)
unchosen T w (fault.Refused refusal.NameTaken) h = refused T w (running h.0) condition.unused refusal.NameTaken (h.2, (h.1, tt)) (refl, h.3)
unchosen T w fault.OutOfMemory h = tt
unchosen T w (fault.Syntax e) h = absurd h
unchosen T w (fault.NotAccepted e) h = absurd h
unchosen T w (fault.Refused (refusal.Unreachable s)) h = absurd h
unchosen T w (fault.Refused refusal.Endless) h = absurd h
unchosen T w (fault.Refused (refusal.MixedInit s)) h = absurd h
unchosen T w (fault.Refused (refusal.PartlyMoved s)) h = absurd h
unchosen T w (fault.Refused (refusal.Shadowed s)) h = absurd h
unchosen T w (fault.Refused (refusal.NotMut s)) h = absurd h
unchosen T w (fault.Refused (refusal.Aliased s)) h = absurd h
unchosen T w (fault.Refused (refusal.Limit x n)) h = absurd h
unchosen T w (fault.Refused (refusal.Unfit e)) h = absurd h
unchosen T w (fault.Refused (refusal.Region i l k)) h = absurd h
unchosen T w (fault.Refused (refusal.Loan a b)) h = absurd h
unchosen T w (fault.Refused refusal.Unconfirmed) h = absurd h

-- ---- the plan

module _ (T : Text) (w : Wish) (r : RunPos) (g : TypedFn) (h : Home) (chosen : IsChosen T.tokens T.length T.program w.start w.end w.name r) where
  abbrev at : Case
  at = case_at r g h

  not_planned : (x : Refusal) → IsNotPlanned T at x → RefusedBy T w x
  not_planned (refusal.Unreachable s) f = refused T w at condition.reached (refusal.Unreachable s) (chosen.unused, (chosen.word, (chosen.run, tt))) f
  not_planned refusal.Endless f = refused T w at condition.left refusal.Endless (f.0, (chosen.unused, (chosen.word, (chosen.run, tt)))) f.1
  not_planned (refusal.MixedInit s) f = refused T w at condition.settled (refusal.MixedInit s) (f.0.left, (f.0.reached, (chosen.unused, (chosen.word, (chosen.run, tt))))) f.1
  not_planned (refusal.PartlyMoved s) f =
      let e = f.0.entered in refused T w at condition.whole (refusal.PartlyMoved s) (f.0.settled, (e.left, (e.reached, (chosen.unused, (chosen.word, (chosen.run, tt)))))) f.1
  not_planned (refusal.Shadowed s) f = let y = f.1.settled in let e = y.entered in
      refused T w (with_plan at f.0) condition.visible (refusal.Shadowed s) (f.1.whole, (y.settled, (e.left, (e.reached, (chosen.unused, (chosen.word, (chosen.run, tt))))))) f.2
  not_planned refusal.NotARun f = absurd f
  not_planned refusal.BadName f = absurd f
  not_planned refusal.NameTaken f = absurd f
  not_planned (refusal.NotMut s) f = absurd f
  not_planned (refusal.Aliased s) f = absurd f
  not_planned (refusal.Limit x n) f = absurd f
  not_planned (refusal.Unfit e) f = absurd f
  not_planned (refusal.Region i l k) f = absurd f
  not_planned (refusal.Loan a b) f = absurd f
  not_planned refusal.Unconfirmed f = absurd f

  -- with a plan
  standing : (k : ExitPlan) → IsPlanned T at k → Stands T w (with_modes T at k [] []) condition.passable
  standing k p = let y = p.whole.settled in let e = y.entered in
      (p.visible, (p.whole.whole, (y.settled, (e.left, (e.reached, (chosen.unused, (chosen.word, (chosen.run, tt))))))))

  not_decided : (x : Refusal) → IsNotDecided T at x → RefusedBy T w x
  not_decided (refusal.NotMut s) f = refused T w (with_modes T at f.0 [] []) condition.passable (refusal.NotMut s) (standing f.0 f.1) f.2
  not_decided (refusal.Aliased s) f = refused T w (with_modes T at f.0 [] []) condition.unmoved (refusal.Aliased s) (f.2, standing f.0 f.1) f.3
  not_decided (refusal.Unreachable s) f = not_planned (refusal.Unreachable s) f
  not_decided refusal.Endless f = not_planned refusal.Endless f
  not_decided (refusal.MixedInit s) f = not_planned (refusal.MixedInit s) f
  not_decided (refusal.PartlyMoved s) f = not_planned (refusal.PartlyMoved s) f
  not_decided (refusal.Shadowed s) f = not_planned (refusal.Shadowed s) f
  not_decided refusal.NotARun f = absurd f
  not_decided refusal.BadName f = absurd f
  not_decided refusal.NameTaken f = absurd f
  not_decided (refusal.Limit x n) f = absurd f
  not_decided (refusal.Unfit e) f = absurd f
  not_decided (refusal.Region i l k) f = absurd f
  not_decided (refusal.Loan a b) f = absurd f
  not_decided refusal.Unconfirmed f = absurd f

  pub undecided_stops : (f : Fault) → IsUndecided T at f → IsStopped T w f
  undecided_stops (fault.Refused x) f = not_decided x f
  undecided_stops fault.OutOfMemory f = tt
  undecided_stops (fault.Syntax e) f = absurd f
  undecided_stops (fault.NotAccepted e) f = absurd f
