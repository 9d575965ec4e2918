use Rattle.std.proofs.Common.{◌≡◌, ◌++◌, map, drop}
use Rattle.rx_tree.specs.PlainOf.{plain-Param as plain-Parameter, plain-Program}
use Rattle.rx_hoist_plan.specs.PlainPlan.{plain-Param}
use Rattle.rx_hoist_extraction.specs.WrittenTypes.{positions_of}
use Rattle.rx_hoist_extraction.specs.NewFunction.{passed_types}
use Rattle.rx_hoist_made.specs.Rows.{nth_name}
use Rattle.rx_hoist_items.specs.Signatures as signatures
use Rattle.rx_hoist_items.proofs.function.parameters.Given as goal

abbrev pub invariant-loop-param : goal.invariant-loop-param
invariant-loop-param l =
    record {
      made : map plain-Parameter l.all ++ signatures.parameters (plain-Program l.program) l.span (nth_name l.row) 0 (map plain-Param (drop l.param-index l.params))
          ≡ signatures.parameters (plain-Program l.program) l.span (nth_name l.fn.row) 0 (map plain-Param l.params);
      rest : drop (positions_of (plain-Program l.program) (passed_types (map plain-Param (drop l.param-index l.params)))) l.row
          ≡ drop (positions_of (plain-Program l.program) (passed_types (map plain-Param l.params))) l.fn.row;
    }
