use Rattle.std.proofs.Common.{◌≡◌, drop}
use Rattle.rx_exits_plan.specs.PlainPlan.{plain-Exit, outs_in}
use Rattle.rx_modes.proofs.aliased.is_out_of.Given as goal

abbrev pub invariant-loop-entry : goal.invariant-loop-entry
invariant-loop-entry l = outs_in (drop l.entry-index l.exits) (plain-Exit l.exit) ≡ outs_in l.exits (plain-Exit l.exit)
