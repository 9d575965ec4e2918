use Rattle.std.proofs.Common.{◌≡◌, Bool, List, length, take}
use Rattle.rx_exits_plan.specs.Asked.{Asked}
use Rattle.rx_exits_plan.specs.PlainPlan.{plan_of}
use Rattle.rx_modes_uses.specs.Uses.{IsUses}
use Rattle.rx_modes.specs.Told.{IsKnown, Each}
use Rattle.rx_modes.proofs.uses.all_uses.Given as goal

abbrev pub invariant-loop-variable : goal.invariant-loop-variable
invariant-loop-variable l = record {
  count : length l.all.items ≡ l.variable-index;
  uses : (A : Asked) (muts : List Bool) → IsKnown A muts l.known → Each (IsUses A muts (plan_of A l.known.plan.now)) (take l.variable-index l.params) l.all.items;
}
