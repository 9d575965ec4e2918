use Rattle.std.proofs.Common.{◌≡◌, drop, map}
use Rattle.rx_hoist_plan.specs.PlainPlan.{plain-Leaving, plain-Plan}
use Rattle.rx_hoist_extraction.specs.NewEnum.{all_fields}
use Rattle.rx_hoist.specs.Levels as spec
use Rattle.rx_hoist.proofs.levels.fields_past.Given as goal

abbrev pub invariant-loop-leaving : goal.invariant-loop-leaving
invariant-loop-leaving l =
    spec.first (all_fields (plain-Plan l.plan) (map plain-Leaving (drop l.leaving-index l.exits))) ≡ spec.first (all_fields (plain-Plan l.plan) (map plain-Leaving l.exits))
