-- What the new function is given is what a call gives: where the run is entered a param was written and is needed, and a local isn't.
use Rattle.std.proofs.Common.{◌≡◌, ℕ, Bool, false, List, Option, Some, None, sym, ◌∙◌, subst}
use Rattle.rx_typed.specs.Tree.{Operands, Parameter, Body}
use Rattle.rx_modes_policy.specs.declared.uses.Mode.{Mode}
use Rattle.rx_lower_walks.specs.Actions.{Action}
use Rattle.rx_lower_walks.specs.Orders.{Order, order_body}
use Rattle.rx_lower_walks.specs.Walks.{Among, here, there}
use Rattle.rx_exits_plan.specs.Points.{enters}
use Rattle.rx_exits_plan.specs.Asked.{Asked}
use Rattle.rx_exits_plan.specs.Plan.{Plan, IsPlan}
use Rattle.rx_engine_simulation.specs.Histories.{Facts, Living, Written}
use Rattle.rx_engine_simulation.specs.Sights.{shut, In, How, plain, special, Sight, sight, Renaming, sight_of}
use Rattle.rx_engine_simulation.specs.Programs.{Untouched}
use Rattle.rx_engine_simulation.specs.Passing.{AreShut, Passing, passes_none, passes_move, passes_copy, passes_reference, passes_again, passes_reborrow, passes_view, Local, no_local, local_and}
use Rattle.rx_engine_simulation.specs.Blocks.{Stretch, before}
use Rattle.rx_engine_simulation.specs.Marks.{with_mark}
use Rattle.rx_engine_simulation.specs.Statements.{Entered}
use Rattle.rx_engine_simulation.specs.Statements as statements
use Rattle.rx_engine_related.specs.AboutRun.{about_run}
use Rattle.rx_engine_related.specs.Running.{running_of}
use Rattle.rx_engine_related.specs.Accepted.{Accepted}
use Rattle.rx_engine_related.specs.Premises.{known_of}
use Rattle.rx_engine_related.proofs.Premises.{param_lives, param_written, local_dead}
use Rattle.rx_engine_related.specs.Given.{GivenTo, given_all, moves_in, moves_again, is_copied, is_shared, is_lent, is_reborrowed, is_viewed, LocalsOf, all_locals, a_local, EntersWith, enters_with}

-- ---- a variable that moves is not one that is copied

abbrev IsElsewhere : How → Type 0
IsElsewhere special = Unit {0}
IsElsewhere _ = ⊥

abbrev SeenElsewhere : Option Sight → Type 0
SeenElsewhere None = ⊥
SeenElsewhere (Some e) = IsElsewhere e.how

apart : {o : Option Sight} {y z : ℕ} → o ≡ Some (sight y special) → o ≡ Some (sight z (plain shut)) → ⊥
apart e f = subst (λ o. SeenElsewhere o) (sym e ∙ f) tt

-- ---- where a walk of the text comes to a part

module _ (again : Bool) (V : Facts) (R : Renaming) (part : Order) (cold : List ℕ) (all_shut : AreShut R cold) where
  not_cold : (x : ℕ) {y : ℕ} → sight_of R x ≡ Some (sight y special) → In x cold → ⊥
  not_cold x seen i = apart seen (all_shut x i).1

  abbrev pub NeededThere : ℕ → Type 0
  NeededThere x = (h : List Action) → V.Comes part h → Living V x h

  abbrev pub WrittenThere : ℕ → Type 0
  WrittenThere x = (h : List Action) → V.Comes part h → Written h x

  pub passes : {Rp Rf : Renaming} {xs : List ℕ} {ms : List Mode} {es : Operands} {ps : List Parameter} → ((x : ℕ) → Among x xs → NeededThere x) → ((x : ℕ) → Among x xs → WrittenThere x)
      → GivenTo again R cold Rp xs ms es ps Rf → Passing again V R part (λ x. In x cold) Rp es ps Rf
  passes needed written given_all = passes_none
  passes needed written (moves_in {x = x} seen none new g) = passes_move seen (not_cold x seen) (needed x here) (written x here) none new (passes (λ y i. needed y (there i)) (λ y i. written y (there i)) g)
  passes needed written (moves_again {x = x} may seen none new g) = passes_again may seen (not_cold x seen) (needed x here) (written x here) none new (passes (λ y i. needed y (there i)) (λ y i. written y (there i)) g)
  passes needed written (is_copied {x = x} seen i none new g) = passes_copy seen i (written x here) none new (passes (λ y i. needed y (there i)) (λ y i. written y (there i)) g)
  passes needed written (is_shared w seen none new g) = passes_reference w seen (λ k. absurd (cc)) none new (passes (λ y i. needed y (there i)) (λ y i. written y (there i)) g)
  passes needed written (is_lent w seen warm none new g) = passes_reference w seen (λ k. warm) none new (passes (λ y i. needed y (there i)) (λ y i. written y (there i)) g)
  passes needed written (is_reborrowed {x = x} may seen i none new g) = passes_reborrow may seen i (written x here) none new (passes (λ y i. needed y (there i)) (λ y i. written y (there i)) g)
  passes needed written (is_viewed {x = x} may seen i none new g) = passes_view may seen i (written x here) none new (passes (λ y i. needed y (there i)) (λ y i. written y (there i)) g)

  pub locals_so : {Rp Rf : Renaming} {xs : List ℕ} {ls : List (ℕ × ℕ)} → ((x : ℕ) → Among x xs → (h : List Action) → V.Comes part h → Living V x h → ⊥)
      → LocalsOf R Rp xs ls Rf → Local V R part (λ x. In x cold) Rp ls Rf
  locals_so dead all_locals = no_local
  locals_so dead (a_local {x = x} seen none new l) = local_and seen (not_cold x seen) (dead x here) none new (locals_so (λ y i. dead y (there i)) l)

-- ---- where the run is entered

module _ (A : Asked) (muts : List Bool) (k : Plan) (u : Untouched (running_of A k.params) (about_run A muts k)) (short : A.run.tail ≡ false) (plan : IsPlan A k) (accepted : Accepted A muts) where
  pub entered : {again : Bool} {modes : List Mode} {R Ra : Renaming} {es : Operands} {ps : List Parameter} {ls : List (ℕ × ℕ)} (r : Stretch) (rest : Body) → EntersWith again k modes R es ps ls Ra
      → Entered again (known_of A muts k u) R (before (with_mark enters k.params r) rest) es ps ls Ra
  entered {again} {R = R} r rest (enters_with cold Rp Rl all_shut given local absents covers specials) =
      statements.enters cold Rp Rl all_shut
      (λ i t. passes again (known_of A muts k u) R (order_body (before (with_mark enters k.params r) rest) i t) cold all_shut
      (λ x m h c. param_lives A muts k u r rest x h m (i, t, c)) (λ x m h c. param_written A muts k u short plan accepted r rest x h m (i, t, c)) given)
      (λ i t. locals_so again (known_of A muts k u) R (order_body (before (with_mark enters k.params r) rest) i t) cold all_shut (λ x m h c l. local_dead A muts k u short plan accepted r rest x h m (i, t, c) l) local)
      absents covers specials
