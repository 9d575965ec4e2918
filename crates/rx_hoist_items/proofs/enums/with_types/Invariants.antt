use Rattle.std.proofs.Common.{◌≡◌, ◌++◌, map, drop}
use Rattle.rx_tree.specs.PlainOf.{plain-Program, plain-TypeText}
use Rattle.rx_hoist_plan.specs.PlainPlan.{plain-Variable}
use Rattle.rx_hoist_extraction.specs.Values.{variables_held, types_of}
use Rattle.rx_hoist_extraction.specs.WrittenTypes.{positions_of}
use Rattle.rx_hoist_made.specs.Rows.{fulls, nth_name}
use Rattle.rx_hoist_items.proofs.enums.with_types.Given as goal

abbrev pub invariant-loop-variable : goal.invariant-loop-variable
invariant-loop-variable l =
    record {
      made : map plain-TypeText l.all ++ fulls (plain-Program l.program) l.span (nth_name l.row) 0 (types_of (variables_held (map plain-Variable (drop l.variable-index l.variables))))
          ≡ map plain-TypeText l.fn.types ++ fulls (plain-Program l.program) l.span (nth_name l.fn.row) 0 (types_of (variables_held (map plain-Variable l.variables)));
      rest : drop (positions_of (plain-Program l.program) (types_of (variables_held (map plain-Variable (drop l.variable-index l.variables))))) l.row
          ≡ drop (positions_of (plain-Program l.program) (types_of (variables_held (map plain-Variable l.variables)))) l.fn.row;
    }
