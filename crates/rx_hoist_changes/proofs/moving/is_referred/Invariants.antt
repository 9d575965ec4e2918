-- The name is that of one of all exactly where it is that of one of those that are left.
use Rattle.std.proofs.Common.{◌≡◌, map, drop}
use Rattle.rx_hoist_plan.specs.PlainPlan.{plain-Param}
use Rattle.rx_hoist_extraction.specs.Names.{is_among}
use Rattle.rx_hoist_extraction.specs.Moved.{referred}
use Rattle.rx_hoist_changes.proofs.moving.is_referred.Given as goal

abbrev pub invariant-loop-param : goal.invariant-loop-param
invariant-loop-param l =
    is_among l.name (referred (map plain-Param (drop l.param-index l.params))) ≡ is_among l.name (referred (map plain-Param l.params))
