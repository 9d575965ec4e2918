-- The values that stand for what an exit hands out.
use Rattle.std.specs.Prelude.{List, ◌++◌, Option, Some, None, map, option_map}
use Rattle.rx_core.specs.declared.types.Ty.{Ty}
use Rattle.rx_typed.specs.PlainTypes.{plain-Ty}
use Rattle.rx_hoist_plan.specs.PlainPlan.{plain-Variable}
use Rattle.rx_hoist_extraction.specs.Values.{Value, result_if_any, variables_held}
use Rattle.rx_hoist_made.specs.declared.handed.Handed.{Handed}

abbrev pub plain-Handed : Handed → List Value
plain-Handed h = result_if_any (option_map (λ t. plain-Ty t.now) h.result) ++ variables_held (map plain-Variable h.outs.now)
