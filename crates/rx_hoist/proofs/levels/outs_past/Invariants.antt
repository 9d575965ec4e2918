use Rattle.std.proofs.Common.{◌≡◌, drop, map}
use Rattle.rx_hoist_plan.specs.PlainPlan.{plain-Variable}
use Rattle.rx_hoist_extraction.specs.Values.{variables_held, types_of}
use Rattle.rx_hoist.specs.Levels as spec
use Rattle.rx_hoist.proofs.levels.outs_past.Given as goal

abbrev pub invariant-loop-out : goal.invariant-loop-out
invariant-loop-out l = spec.first (types_of (variables_held (map plain-Variable (drop l.out-index l.outs)))) ≡ spec.first (types_of (variables_held (map plain-Variable l.outs)))
