-- Those that are passed are others.
use Rattle.std.proofs.Common.{◌≡◌, drop}
use Rattle.rx_exits_plan.specs.PlainPlan.{plain-Exit, outs_in}
use Rattle.rx_engine_extracted.proofs.exits.outs_of.Given as goal

abbrev pub invariant-loop-listed : goal.invariant-loop-listed
invariant-loop-listed l = outs_in (drop l.listed-index l.exits) (plain-Exit l.exit) ≡ outs_in l.exits (plain-Exit l.exit)
