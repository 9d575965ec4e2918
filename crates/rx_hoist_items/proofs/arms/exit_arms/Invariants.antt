use Rattle.std.proofs.Common.{◌≡◌, map, take}
use Rattle.rx_tree.specs.PlainOf.{plain-Arm}
use Rattle.rx_hoist_plan.specs.PlainPlan.{plain-Leaving, plain-Plan}
use Rattle.rx_hoist_made.specs.PlainParts.{plain-Labels}
use Rattle.rx_hoist_items.specs.Calling.{arm}
use Rattle.rx_hoist_items.proofs.arms.exit_arms.Given as goal

abbrev pub invariant-loop-leaving : goal.invariant-loop-leaving
invariant-loop-leaving l =
    map plain-Arm l.all ≡ map (arm (plain-Plan l.plan) l.span (plain-Labels l.labels)) (map plain-Leaving (take l.leaving-index l.exits))
