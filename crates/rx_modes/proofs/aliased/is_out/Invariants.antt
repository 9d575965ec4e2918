use Rattle.std.proofs.Common.{◌≡◌, drop}
use Rattle.rx_exits_plan.specs.Plan.{out_of_some}
use Rattle.rx_exits_plan.specs.PlainPlan.{outs_in}
use Rattle.rx_modes.specs.Told.{listed, is_out}
use Rattle.rx_modes.proofs.aliased.is_out.Given as goal

abbrev pub invariant-loop-entry : goal.invariant-loop-entry
invariant-loop-entry l = out_of_some (listed (drop l.entry-index l.exits)) (outs_in l.exits) l.variable ≡ is_out l.exits l.variable
