use Rattle.std.proofs.Common.{◌≡◌, ◌≤◌, ◌+◌, map, drop}
use Rattle.rx_tree.specs.PlainOf.{plain-Program}
use Rattle.rx_hoist_made.specs.Counts.{capped}
use Rattle.rx_hoist_plan.specs.PlainPlan.{plain-Variable}
use Rattle.rx_hoist_extraction.specs.Values.{variables_held, types_of}
use Rattle.rx_hoist_extraction.specs.WrittenTypes.{positions_of}
use Rattle.rx_hoist_made.proofs.type_counts.with_variables.Given as goal

abbrev pub invariant-loop-variable : goal.invariant-loop-variable
invariant-loop-variable l =
    record {
      same : capped (l.total + positions_of (plain-Program l.program) (types_of (variables_held (map plain-Variable (drop l.variable-index l.variables))))) ≡ capped (l.fn.number + positions_of (plain-Program l.program) (types_of (variables_held (map plain-Variable l.variables))));
      small : l.total ≤ 18446744073709551615;
    }
