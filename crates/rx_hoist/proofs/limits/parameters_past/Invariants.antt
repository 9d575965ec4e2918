use Rattle.std.proofs.Common.{◌≡◌, drop, map}
use Rattle.rx_typed_declarations.specs.Sizes.{told}
use Rattle.rx_hoist_plan.specs.PlainPlan.{plain-Param}
use Rattle.rx_hoist_extraction.specs.NewFunction.{passed_types}
use Rattle.rx_hoist.specs.Parts as spec
use Rattle.rx_hoist.proofs.limits.parameters_past.Given as goal

abbrev pub invariant-loop-param : goal.invariant-loop-param
invariant-loop-param l =
    spec.first (told l.sizes) (passed_types (map plain-Param (drop l.param-index l.params))) ≡ spec.first (told l.sizes) (passed_types (map plain-Param l.params))
