use Rattle.std.proofs.Common.{◌≡◌, drop, map}
use Rattle.rx_hoist_plan.specs.PlainPlan.{plain-Leaving}
use Rattle.rx_hoist_extraction.specs.Plan as planned
use Rattle.rx_hoist_made.proofs.exits.has_enum.Given as goal

abbrev pub invariant-loop-leaving : goal.invariant-loop-leaving
invariant-loop-leaving l =
    planned.has_enum (map plain-Leaving (drop l.leaving-index l.exits)) ≡ planned.has_enum (map plain-Leaving l.exits)
