-- A run that is decided and moved is hoisted; a limit that is passed is the first condition that is not met.
use Rattle.std.proofs.Common.{ℕ, length, ap, subst}
use Rattle.rx_core.specs.declared.types.Which.TheVariants as which
use Rattle.rx_tree.specs.Plain.{ProgramTree}
use Rattle.rx_typed_runs.specs.declared.runs.RunPos.{RunPos}
use Rattle.rx_typeck_typed.specs.declared.typed.TypedFn.{TypedFn}
use Rattle.rx_exits_plan.specs.Runs.{Home}
use Rattle.rx_hoist_extraction.specs.Plan.{Plan}
use Rattle.rx_engine_extraction.specs.declared.refusal.Fault.{Fault}
use Rattle.rx_engine_extraction.specs.declared.refusal.Fault.TheVariants as fault
use Rattle.rx_engine_extraction.specs.declared.refusal.Refusal.{Refusal}
use Rattle.rx_engine_extraction.specs.declared.refusal.Refusal.TheVariants as refusal
use Rattle.rx_hoist_plan.specs.PlainPlan.{plain-Plan}
use Rattle.rx_engine_extraction.specs.declared.given.Plans.{Plans}
use Rattle.rx_engine_extraction.specs.Source.{Text, Wish}
use Rattle.rx_engine_extraction.specs.Case.{Case}
use Rattle.rx_engine_extraction.specs.Made.{named}
use Rattle.rx_engine_extraction.specs.Conditions as condition
use Rattle.rx_engine_extraction.specs.Conditions.{Condition}
use Rattle.rx_engine_extraction.specs.Failing.{Fails}
use Rattle.rx_engine_extraction.specs.Promise.{Stands}
use Rattle.rx_engine_extraction.specs.Verdict.{RefusedBy}
use Rattle.rx_engine_extraction.specs.Beginning.{IsChosen}
use Rattle.rx_engine_extraction.specs.Deciding.{case_at, with_plans, IsDecided}
use Rattle.rx_engine_extraction.specs.Hoisting.{IsHoisted, IsStopped}
use Rattle.rx_engine_extraction.specs.Moving.{IsMoved, IsPast, IsUnmoved}

module _ (T : Text) (w : Wish) (r : RunPos) (g : TypedFn) (h : Home) (x : Plans) (chosen : IsChosen T.tokens T.length T.program w.start w.end w.name r)
    (decided : IsDecided T (case_at r g h) w.name w.choice x) where
  abbrev at : Case
  at = with_plans T (case_at r g h) x

  abbrev own : Plan
  own = named T w at

  -- all in front of the limits
  met : Stands T w at condition.few_parameters
  met = let p = decided.planned in let y = p.whole.settled in let e = y.entered in
      (decided.unmoved, (decided.passable, (p.visible, (p.whole.whole, (y.settled, (e.left, (e.reached, (chosen.unused, (chosen.word, (chosen.run, tt))))))))))

  refused : (c : Condition) (y : Refusal) → Stands T w at c → Fails T w at c y → RefusedBy T w y
  refused c y s f = record { case = at; condition = c; stands = s; fails = f }

  past : (y : Refusal) → IsPast T r own y → RefusedBy T w y
  past (refusal.Limit which.Parameters n) f = refused condition.few_parameters (refusal.Limit which.Parameters n) met (ap (λ m. refusal.Limit which.Parameters m) f.0, f.1)
  past (refusal.Limit which.Lifetimes n) f = refused condition.few_lifetimes (refusal.Limit which.Lifetimes n) (f.2, met) (ap (λ m. refusal.Limit which.Lifetimes m) f.0, f.1)
  past (refusal.Limit which.Levels n) f = let few = f.3 in
      refused condition.few_levels (refusal.Limit which.Levels n) (few.lifetimes, (few.parameters, met)) (f.0, ap (λ m. refusal.Limit which.Levels m) f.1, f.2)
  past (refusal.Limit which.Parts n) f = let few = f.4 in
      refused condition.few_parts (refusal.Limit which.Parts n) (f.3, (few.lifetimes, (few.parameters, met))) (f.0, ap (λ m. refusal.Limit which.Parts m) f.1, f.2)
  past (refusal.Limit which.Bytes n) f = let few = f.2 in
      refused condition.few_numbers (refusal.Limit which.Bytes n) (few.parts, (few.levels, (few.few.lifetimes, (few.few.parameters, met)))) (ap (λ m. refusal.Limit which.Bytes m) f.0, f.1)
  past (refusal.Limit which.Sites n) f = absurd f
  past (refusal.Limit which.Positions n) f = absurd f
  past refusal.NotARun f = absurd f
  past refusal.BadName f = absurd f
  past refusal.NameTaken f = absurd f
  past (refusal.Unreachable s) f = absurd f
  past refusal.Endless f = absurd f
  past (refusal.MixedInit s) f = absurd f
  past (refusal.PartlyMoved s) f = absurd f
  past (refusal.Shadowed s) f = absurd f
  past (refusal.NotMut s) f = absurd f
  past (refusal.Aliased s) f = absurd f
  past (refusal.Unfit e) f = absurd f
  past (refusal.Region i l k) f = absurd f
  past (refusal.Loan a b) f = absurd f
  past refusal.Unconfirmed f = absurd f

  pub unmoved_stops : (f : Fault) → IsUnmoved T r (plain-Plan x.named) f → IsStopped T w f
  unmoved_stops (fault.Refused y) f = past y (subst (λ k. IsPast T r k y) decided.named f)
  unmoved_stops fault.OutOfMemory f = tt
  unmoved_stops (fault.Syntax e) f = absurd f
  unmoved_stops (fault.NotAccepted e) f = absurd f

  hoisted_by : (q : ProgramTree) (n : ℕ) → IsMoved T r own q n → IsHoisted T w at q n
  hoisted_by q n m = let few = m.few in record {
    stands = (m.short, (few.parts, (few.levels, (few.few.lifetimes, (few.few.parameters, met)))));
    program = m.program;
    item = m.item;
    bare = m.bare;
    formed = m.formed;
    numbered = m.numbered;
  }

  pub moved_is_hoisted : (q : ProgramTree) (n : ℕ) → IsMoved T r (plain-Plan x.named) q n → IsHoisted T w at q n
  moved_is_hoisted q n m = hoisted_by q n (subst (λ k. IsMoved T r k q n) decided.named m)
