use Rattle.std.proofs.Common.{◌≡◌, ◌≤◌, ◌+◌, map, drop}
use Rattle.rx_tree.specs.PlainOf.{plain-Program}
use Rattle.rx_hoist_made.specs.Counts.{capped}
use Rattle.rx_hoist_plan.specs.PlainPlan.{plain-Param}
use Rattle.rx_hoist_extraction.specs.NewFunction.{passed_types}
use Rattle.rx_hoist_extraction.specs.WrittenTypes.{positions_of}
use Rattle.rx_hoist_made.proofs.type_counts.parameter_positions.Given as goal

abbrev pub invariant-loop-param : goal.invariant-loop-param
invariant-loop-param l =
    record {
      same : capped (l.total + positions_of (plain-Program l.program) (passed_types (map plain-Param (drop l.param-index l.params)))) ≡ capped (positions_of (plain-Program l.program) (passed_types (map plain-Param l.params)));
      small : l.total ≤ 18446744073709551615;
    }
