use Rattle.std.proofs.Common.{◌≡◌, drop, map, max}
use Rattle.rx_typed.specs.Types.{most_levels, shapes_of}
use Rattle.rx_hoist_plan.specs.PlainPlan.{plain-Variable}
use Rattle.rx_hoist_extraction.specs.Values.{variables_held, types_of}
use Rattle.rx_hoist_made.specs.Counts.{capped}
use Rattle.rx_hoist.proofs.levels.outs_levels.Given as goal

abbrev pub invariant-loop-out : goal.invariant-loop-out
invariant-loop-out l =
    max l.most (capped (most_levels (shapes_of (types_of (variables_held (map plain-Variable (drop l.out-index l.outs)))))))
    ≡ max l.fn.number (capped (most_levels (shapes_of (types_of (variables_held (map plain-Variable l.outs))))))
