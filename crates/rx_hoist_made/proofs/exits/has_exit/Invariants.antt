use Rattle.std.proofs.Common.{◌≡◌, drop, map}
use Rattle.rx_hoist_plan.specs.PlainPlan.{plain-Exit, plain-Leaving}
use Rattle.rx_hoist_extraction.specs.Plan as planned
use Rattle.rx_hoist_made.proofs.exits.has_exit.Given as goal

abbrev pub invariant-loop-leaving : goal.invariant-loop-leaving
invariant-loop-leaving l =
    planned.has_exit (plain-Exit l.exit) (map plain-Leaving (drop l.leaving-index l.exits)) ≡ planned.has_exit (plain-Exit l.exit) (map plain-Leaving l.exits)
