use Rattle.std.proofs.Common.{◌≡◌, drop, map}
use Rattle.rx_hoist_plan.specs.PlainPlan.{plain-Param}
use Rattle.rx_hoist_extraction.specs.NewFunction.{passed_types}
use Rattle.rx_hoist.specs.Levels as spec
use Rattle.rx_hoist.proofs.levels.parameters_past.Given as goal

abbrev pub invariant-loop-param : goal.invariant-loop-param
invariant-loop-param l = spec.first (passed_types (map plain-Param (drop l.param-index l.params))) ≡ spec.first (passed_types (map plain-Param l.params))
