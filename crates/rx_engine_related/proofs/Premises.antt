-- So the plan gives what a call that stands for the run asks of histories.
use Rattle.std.proofs.Common.{◌≡◌, ℕ, Bool, true, false, List, [], ◌∷◌, map, Some, refl, sym, ap, subst, inr}
use Rattle.std.specs.Prelude.{◌≢◌, slice_get}
use Rattle.rx_typed.specs.Tree.{Body, runs, read, own, Temporary}
use Rattle.rx_lower_walks.specs.Actions.{Action}
use Rattle.rx_lower_walks.specs.Orders.{order_body}
use Rattle.rx_lower_walks.specs.Walks as walk
use Rattle.rx_lower_walks.specs.Walks.{Among}
use Rattle.rx_exits_plan.specs.Blocks as statement
use Rattle.rx_exits_plan.specs.Points.{Exit, returns, enters, leaves}
use Rattle.rx_exits_plan.specs.Marked.{at_point, mark, shown, using, entering}
use Rattle.rx_exits_plan.specs.Asked.{Asked}
use Rattle.rx_exits_plan.specs.Plan.{Plan, IsPlan}
use Rattle.rx_exits_plan.specs.PartlyMoved.{PartlyMoved}
use Rattle.rx_modes_uses.specs.Aliased.{Aliased}
use Rattle.rx_engine_simulation.specs.Histories.{Living, Written}
use Rattle.rx_engine_simulation.specs.Sights.{In, Renaming}
use Rattle.rx_engine_simulation.specs.Programs.{IsHistory, ComesTo, Untouched}
use Rattle.rx_engine_simulation.specs.Arrivals.{Aim, AreDead, IsReady, IsUnlent}
use Rattle.rx_engine_simulation.specs.Blocks.{Stretch, before}
use Rattle.rx_engine_simulation.specs.Marks.{reading, with_mark}
use Rattle.rx_engine_simulation.proofs.MarksTell.{comes_on}
use Rattle.rx_engine_related.specs.AboutRun.{special_of, about_run}
use Rattle.rx_engine_related.specs.Running.{running_of}
use Rattle.rx_engine_related.specs.OnePlace.{LeadsToOnePlace}
use Rattle.rx_engine_related.specs.Accepted.{Accepted}
use Rattle.rx_engine_related.specs.Premises.{known_of, InFront, ByMark, NotHanded}
use Rattle.rx_engine_related.proofs.Entered.{living_entered}
use Rattle.rx_engine_related.proofs.Runs.{running_param_written, running_local_dead, running_out_written, running_others_dead, running_out_living, running_unlent}
use Rattle.rx_modes_uses.specs.NotMut.{NotMut}

-- the run's statements behind its entry, in both ways to write them
pub before_reads : (xs : List ℕ) (r : Stretch) (rest : Body) → before (reading xs r) rest ≡ statement.before (map using xs) (before r rest)
before_reads [] r rest = refl
before_reads (x ∷ xs) r rest = ap (λ c. runs (read (at_point enters) false (own x)) c) (before_reads xs r rest)

module _ (A : Asked) (muts : List Bool) (k : Plan) (u : Untouched (running_of A k.params) (about_run A muts k)) where
  at_entry : (r : Stretch) (rest : Body) (i : ℕ) (t : Temporary) (h : List Action) → ComesTo (running_of A k.params) (order_body (before (with_mark enters k.params r) rest) i t) h
      → ComesTo (running_of A k.params) (order_body (statement.before (entering k.params) (before r rest)) i t) h
  at_entry r rest i t h c = subst (λ b. ComesTo (running_of A k.params) (order_body (runs (mark enters) b) i t) h) (before_reads k.params r rest) c

  pub param_lives : (r : Stretch) (rest : Body) (x : ℕ) (h : List Action) → Among x k.params → InFront A muts k u r rest h → Living (known_of A muts k u) x h
  param_lives r rest x h m (i, t, c) = living_entered (running_of A k.params) (special_of A muts k) u k.params x m (before r rest) i t h (at_entry r rest i t h c)

  module _ (short : A.run.tail ≡ false) (plan : IsPlan A k) (accepted : Accepted A muts) where
    pub param_written : (r : Stretch) (rest : Body) (x : ℕ) (h : List Action) → Among x k.params → InFront A muts k u r rest h → Written h x
    param_written r rest x h m (i, t, c) = running_param_written A short k.params muts accepted k plan x m (before (reading k.params r) rest) i t h c

    pub local_dead : (r : Stretch) (rest : Body) (x : ℕ) (h : List Action) → Among x k.locals → InFront A muts k u r rest h → Living (known_of A muts k u) x h → ⊥
    local_dead r rest x h m (i, t, c) l = running_local_dead A short k plan muts accepted u x m (before (reading k.params r) rest) i t h c l

    pub out_ready : (e : Exit) (a : Aim) (x : ℕ) → ByMark A muts k u e a → e ≢ returns → LeadsToOnePlace (running_of A k.params) (shown (leaves e)) → ¬ (PartlyMoved A k x) → Among e k.exits → Among x (k.outs e) → IsReady (known_of A muts k u) a x
    out_ready e a x by_mark not_return once whole i o h arrives =
        let n = by_mark h arrives in
        let good = subst (λ h. IsHistory (running_of A k.params) h) n.1 n.2 in (
          subst (λ h. Living (known_of A muts k u) x h) (sym n.1) (running_out_living A short k plan muts accepted u e x not_return once i o n.0 good),
          subst (λ h. Written h x) (sym n.1) (inr ((λ d. d), running_out_written A short k.params muts accepted k plan e x whole i o n.0 good)),
        )

    pub whole_unlent : ((x : ℕ) → ¬ (Aliased A muts k x)) → (b : Body) (x : ℕ) → In x (special_of A muts k) → slice_get muts x ≡ Some true → IsUnlent (known_of A muts k u) b x
    whole_unlent none b x i m n t h c w = running_unlent A short k plan muts accepted none x i m h (comes_on (running_of A k.params) (order_body b n t) h [] c walk.rests) w

  pub others_dead : A.run.tail ≡ false → IsPlan A k → ((y : ℕ) → ¬ (NotMut A muts k y)) → (e : Exit) (a : Aim) (R : Renaming) → ByMark A muts k u e a → e ≢ returns → Among e k.exits → NotHanded A muts k e R → AreDead (known_of A muts k u) R a
  others_dead short plan passed e a R by_mark not_return i none x y seen h arrives l =
      let n = by_mark h arrives in
      let s = none x y seen in
      running_others_dead A short k plan muts passed u e x i not_return s.0 s.1 n.0 (subst (λ h. Living (known_of A muts k u) x h) n.1 l)
