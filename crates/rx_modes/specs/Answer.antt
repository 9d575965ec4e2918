-- What is answered of a run: the modes of its params, or why there are none. (REM, OOPSLA 2023, "Extract method", the analysis of
-- ownership; Rust Reference, "Mutability".)
use Rattle.std.specs.Prelude.{◌≡◌, ℕ, Bool, List, map, Result, MatchResult}
use Rattle.rx_exits_plan.specs.Asked.{Asked}
use Rattle.rx_exits_plan.specs.Plan.{Plan, is_moved}
use Rattle.rx_modes_policy.specs.declared.uses.Mode.{Mode}
use Rattle.rx_modes_policy.specs.declared.uses.Uses.{Uses}
use Rattle.rx_modes_uses.specs.Modes.{IsModes}
use Rattle.rx_modes_uses.specs.NotMut.{NotMut}
use Rattle.rx_modes_uses.specs.Aliased.{Aliased}
use Rattle.rx_modes_given.specs.GivenAway.{is_given_away}
use Rattle.rx_modes.specs.declared.plan.ModePlan.{ModePlan}
use Rattle.rx_modes.specs.declared.plan.ModeFault.{ModeFault}
use Rattle.rx_modes.specs.declared.plan.ModeFault.TheVariants as fault

-- declared `mut`, and the muts of the function's variables; the choice is the policy's
pub record HasModes (A : Asked) (muts : List Bool) (k : Plan) (choice : Uses → Mode) (it : ModePlan) : Type 0 where
  pub modes : IsModes A muts k choice it.modes
  pub moved : it.moved ≡ map (is_moved A) k.params
  pub given_away : it.given_away ≡ map (is_given_away A muts) k.params
  pub each_has_one : (x : ℕ) → ¬ (NotMut A muts k x)
  pub none_is_aliased : (x : ℕ) → ¬ (Aliased A muts k x)

abbrev pub IsRefused : Asked → List Bool → Plan → ModeFault → Type 0
IsRefused A muts k (fault.NotMut x) = NotMut A muts k x
IsRefused A muts k (fault.Aliased x) = ((y : ℕ) → ¬ (NotMut A muts k y)) × Aliased A muts k x
IsRefused A muts k fault.OutOfMemory = Unit {0}

abbrev pub IsAnswer : Asked → List Bool → Plan → (Uses → Mode) → Result ModePlan ModeFault → Type 0
IsAnswer A muts k choice r = MatchResult r (HasModes A muts k choice) (IsRefused A muts k)
