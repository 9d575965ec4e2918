-- What is known of a run of a function of a typed program, by what was called.
use Rattle.std.proofs.Common.{◌≡◌, refl, sym, ap, ℕ, List, map, option_map, subst}
use Rattle.std.specs.Bool.{Decides}
use Rattle.rx_typed.specs.PlainTypes.{declarations, plain-Ty}
use Rattle.rx_typeck_typed.specs.declared.typed.TypedFn.{TypedFn}
use Rattle.rx_lower.specs.Functions.{trimmed}
use Rattle.rx_exits_plan.specs.Points.{enters}
use Rattle.rx_exits_plan.specs.Runs.{Home}
use Rattle.rx_exits_plan.specs.declared.plan.Run.{Run}
use Rattle.rx_exits_plan.specs.Asked.{Asked}
use Rattle.rx_exits_plan.specs.PlainPlan.{IsExitPlan}
use Rattle.rx_exits_plan.specs.Unreachable.{SomeComes}
use Rattle.rx_exits.specs.AskedOf.{asked_of}
use Rattle.rx_exits.specs.Living.{IsLiving}
use Rattle.rx_modes_uses.specs.Outside.{in_run, outside_run, in_function}
use Rattle.rx_modes_deeds.specs.declared.deeds.Deeds.{Deeds}
use Rattle.rx_modes_deeds.specs.Doings.{AreDeeds, deeds_at}
use Rattle.rx_modes.specs.declared.known.Known.{Known}
use Rattle.rx_modes.specs.Told.{IsKnown}
use Rattle.rx_modes.proofs.Answering.{params_are_params}
use Rattle.rx_lower_walks.specs.Actions.{Action}

-- tables, as slices
as_table : (l : List Action) (m n : List Deeds) → m ≡ n → ((x : ℕ) → AreDeeds l x (deeds_at n x)) → (x : ℕ) → AreDeeds l x (deeds_at m x)
as_table l m n e told x = subst (λ t. AreDeeds l x (deeds_at t x)) (sym e) (told x)

module _ (P : ℕ → ℕ) (f : TypedFn) (r : Run) (h : Home) (known : Known) where
  abbrev asked : Asked
  asked = asked_of (declarations known.decls.now.items) P f r h

  pub known_told : known.types.now ≡ trimmed f.variables → known.mutable.now ≡ f.mutable → IsExitPlan asked known.plan.now
      → (inside outside whole : List Deeds) (params : List ℕ) → known.inside.now ≡ inside → known.outside.now ≡ outside → known.whole.now ≡ whole → params ≡ known.plan.now.params
      → ((x : ℕ) → AreDeeds (in_run asked) x (deeds_at inside x)) → ((x : ℕ) → AreDeeds (outside_run asked) x (deeds_at outside x))
      → ((x : ℕ) → AreDeeds (in_function asked) x (deeds_at whole x)) → IsLiving asked params known.living.now → Decides known.entered (SomeComes asked enters)
      → IsKnown asked f.mutable known
  known_told types mutable plan inside outside whole params i o w p are_inside are_outside are_whole living entered = record {
    declared = refl;
    types = ap (map (option_map plain-Ty)) (sym types);
    mutable = mutable;
    params = params_are_params asked known.plan.now plan;
    inside = as_table (in_run asked) known.inside.now inside i are_inside;
    outside = as_table (outside_run asked) known.outside.now outside o are_outside;
    whole = as_table (in_function asked) known.whole.now whole w are_whole;
    living = subst (λ l. IsLiving asked l known.living.now) p living;
    entered = entered;
  }
