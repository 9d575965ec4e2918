-- How the new function ends, where the run does: the mark at its end tells what is needed there.
use Rattle.std.proofs.Common.{◌≡◌, ℕ, Bool, false, List, refl, subst}
use Rattle.rx_typed.specs.Tree.{Exp, Body}
use Rattle.rx_lower_walks.specs.Actions.{Action}
use Rattle.rx_lower_walks.specs.Walks.{Among, here, there}
use Rattle.rx_exits_plan.specs.Points.{next, enters, leaves}
use Rattle.rx_exits_plan.specs.Marked.{mark}
use Rattle.rx_exits_plan.specs.Asked.{Asked}
use Rattle.rx_exits_plan.specs.Plan.{Plan}
use Rattle.rx_engine_simulation.specs.Turns.{Allowance}
use Rattle.rx_engine_simulation.specs.Histories.{Facts}
use Rattle.rx_engine_simulation.specs.Sights.{Renaming}
use Rattle.rx_engine_simulation.specs.Jumps.{Jumping}
use Rattle.rx_engine_simulation.specs.Programs.{Untouched}
use Rattle.rx_engine_simulation.specs.Arrivals.{Aim, to_rest, Arrives, AreReady, none_ready, ready_and, IsReady}
use Rattle.rx_engine_simulation.specs.Blocks.{Stretch, before, does_then}
use Rattle.rx_engine_simulation.specs.Marks.{with_mark}
use Rattle.rx_engine_simulation.specs.Packing.{Way, no_way}
use Rattle.rx_engine_simulation.specs.Endings.{Last, none_left, a_marked, with_last, aim_of, LikeEnd, left_marked, end_gives, end_is, end_never, end_left}
use Rattle.rx_engine_simulation.specs.Variants.{leaving}
use Rattle.rx_engine_simulation.proofs.Arriving.{behind_closed, behind_statement}
use Rattle.rx_engine_related.specs.AboutRun.{about_run}
use Rattle.rx_engine_related.specs.Running.{running_of}
use Rattle.rx_engine_related.specs.Premises.{ByMark}
use Rattle.rx_engine_related.specs.ByForm.{by_form}
use Rattle.rx_engine_related.specs.Leaving.{HaveThere, none_there, there_and, left}
use Rattle.rx_engine_related.specs.Moved.{Ended, gives_outs, gives_last, gives_never, gives_left}
use Rattle.rx_engine_related.specs.Standing.{marked_run}
use Rattle.rx_engine_related.proofs.Weaker.{Opens}
use Rattle.rx_engine_related.proofs.Moving.{exp_so, closed_reading}

pub ready_so : {V : Facts} {R : Renaming} (a : Aim) {xs zs : List ℕ} → HaveThere R xs zs → ((x : ℕ) → Among x xs → IsReady V a x) → AreReady V R a xs zs
ready_so a none_there ready = none_ready
ready_so a (there_and {x = x} seen h) ready = ready_and seen (ready x here) (ready_so a h (λ y i. ready y (there i)))

module _ (items : ℕ → ℕ) (gain : Allowance) (U : List ℕ) (special : List ℕ) (V : Facts) (Ok : Jumping → Type 0) (jumps : Opens (left U) (leaving U) (by_form special) V Ok) (J : Jumping) (ok : Ok J) where
  pub ended_so : {R : Renaming} {l : Last} {w : Way} {xs : List ℕ} {end : Body} (a : Aim) → (w ≡ no_way → (h : List Action) → Arrives V a h → ⊥) → ((x : ℕ) → Among x xs → IsReady V a x)
      → Ended items gain U special J R l w xs end → LikeEnd items gain U V J R a l false w xs end
  ended_so a never ready (gives_outs h g) = end_gives (ready_so a h ready) g
  ended_so a never ready (gives_last l) = end_is left_marked tt (exp_so items gain U special V Ok jumps J ok l)
  ended_so a never ready gives_never = end_never (never refl)
  ended_so a never ready (gives_left l) = end_left {b = false} left_marked (never refl) (exp_so items gain U special V Ok jumps J ok l)

module _ (A : Asked) (muts : List Bool) (k : Plan) (u : Untouched (running_of A k.params) (about_run A muts k)) where
  -- behind the mark at the run's end
  pub by_mark_behind : (r : Stretch) (rest : Body) → ByMark A muts k u next (to_rest (before (marked_run k none_left r) rest) (marked_run k none_left r))
  by_mark_behind r rest =
      subst (λ s. ByMark A muts k u next (to_rest (before (does_then (mark enters) s) rest) (does_then (mark enters) s))) (closed_reading k.params r (leaves next))
      (λ h a. behind_closed (running_of A k.params) (about_run A muts k) u (with_mark enters k.params r) (leaves next) rest a)

  pub by_mark_last : (r : Stretch) (e : Exp) (rest : Body) → ByMark A muts k u next (aim_of (a_marked e (leaves next)) (before (with_mark enters k.params r) (with_last (a_marked e (leaves next)) rest)) (with_mark enters k.params r))
  by_mark_last r e rest h a = behind_statement (running_of A k.params) (about_run A muts k) u (with_mark enters k.params r) e (leaves next) rest a
