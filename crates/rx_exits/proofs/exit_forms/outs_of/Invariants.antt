-- What the list hands out is what those hand out that are left.
use Rattle.std.proofs.Common.{◌≡◌, drop}
use Rattle.rx_exits_plan.specs.PlainPlan.{plain-Exit, outs_in}
use Rattle.rx_exits.proofs.exit_forms.outs_of.Given as goal

abbrev pub invariant-loop-each : goal.invariant-loop-each
invariant-loop-each l = outs_in (drop l.each-index l.exits) (plain-Exit l.exit) ≡ outs_in l.exits (plain-Exit l.exit)
