-- What is asked of the caller where it calls, for a run that isn't refused: its variables are params or locals, and what is handed out may be
-- assigned.
use Rattle.std.proofs.Common.{◌≡◌, ℕ, false, List, Some}
use Rattle.rx_exits_plan.specs.Occurrences.{is_declared_in_run}
use Rattle.rx_exits_plan.specs.Asked.{Asked}
use Rattle.rx_exits_plan.specs.Plan.{Plan, IsPlan}
use Rattle.rx_exits_plan.specs.MixedInit.{MixedInit}
use Rattle.rx_exits_plan.specs.PartlyMoved.{PartlyMoved}
use Rattle.rx_exits_plan.proofs.Every.{param_or_local}
use Rattle.rx_modes_policy.specs.declared.uses.Mode.{Mode}
use Rattle.rx_modes_policy.specs.declared.uses.Uses.{Uses}
use Rattle.rx_modes_uses.specs.Modes.{IsModes}
use Rattle.rx_engine_simulation.specs.Sights.{Sight, Renaming, sight_of}
use Rattle.rx_engine_related.proofs.Outs.{out_by_modes}
use Rattle.rx_engine_blocks.specs.Renumbering.{Renumbering}
use Rattle.rx_engine_initial.specs.Variables.{Sides}
use Rattle.rx_engine_initial_related.specs.CallerAsked.{IsSlot, CallerAsked}
use Rattle.rx_engine_initial_typed.specs.SameTypes.{DeclaresAlike, SameVariable}
use Rattle.rx_engine_initial_typed.proofs.Corresponding.{like_variable}

pub caller_asked : (r : Renumbering) (S : Sides) → DeclaresAlike r S.frame_there S.frame → (A : Asked) (k : Plan) → IsPlan A k → ((x : ℕ) → ¬ (MixedInit A x)) → ((x : ℕ) → ¬ (PartlyMoved A k x))
    → (choice : Uses → Mode) (modes : List Mode) → IsModes A S.muts_there k choice modes → (R Rn : Renaming) → ((x : ℕ) (e : Sight) → sight_of Rn x ≡ Some e → IsSlot e.how)
    → ((x : ℕ) (e : Sight) → sight_of R x ≡ Some e → is_declared_in_run A.run A.home.body x ≡ false) → ((x : ℕ) (e : Sight) → sight_of Rn x ≡ Some e → SameVariable r S x e.to) → CallerAsked S A k R Rn
caller_asked r S alike A k plan sure whole choice modes passed R Rn slots outside same = record {
  slots = slots;
  outside = outside;
  types = λ x e h. like_variable r S alike x e.to (same x e h);
  known = λ x i. param_or_local A k x plan i (sure x) (whole x);
  assignable = λ e i x o f. out_by_modes A S.muts_there k plan e i x o f (sure x) (whole x) choice modes passed;
}
