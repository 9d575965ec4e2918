use Rattle.std.proofs.Common.{◌≡◌, ◌++◌, map, drop}
use Rattle.rx_tree.specs.PlainOf.{plain-Program, plain-Stmt}
use Rattle.rx_hoist_plan.specs.PlainPlan.{plain-Variable}
use Rattle.rx_hoist_extraction.specs.NewBody.{declared}
use Rattle.rx_hoist_made.proofs.statements.declared.Given as goal

abbrev pub invariant-loop-variable : goal.invariant-loop-variable
invariant-loop-variable l =
    map plain-Stmt l.all ++ declared (plain-Program l.program) l.span (map plain-Variable (drop l.variable-index l.variables))
    ≡ declared (plain-Program l.program) l.span (map plain-Variable l.variables)
