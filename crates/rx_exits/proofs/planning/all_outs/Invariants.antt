-- The exits so far, with what they hand out.
use Rattle.std.proofs.Common.{◌≡◌, ℕ, List, take, map}
use Rattle.rx_exits_plan.specs.declared.plan.ExitOuts.{ExitOuts}
use Rattle.rx_exits_plan.specs.PlainPlan.{plain-Exit}
use Rattle.rx_exits_plan.specs.Asked.{Asked}
use Rattle.rx_exits.specs.Living.{IsLiving}
use Rattle.rx_exits.specs.Choosing.{AllHandOut}
use Rattle.rx_exits.proofs.planning.all_outs.Given as goal

abbrev pub invariant-loop-exit : goal.invariant-loop-exit
invariant-loop-exit l = record {
  exits : map (λ (e : ExitOuts). plain-Exit e.exit) l.all ≡ map plain-Exit (take l.exit-index l.exits);
  outs : (A : Asked) (ps : List ℕ) → IsLiving A ps l.living → AllHandOut A ps l.offered l.all;
}
