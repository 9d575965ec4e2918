use Rattle.std.proofs.Common.{◌≡◌, ◌++◌, map, drop}
use Rattle.rx_tree.specs.Plain as plain
use Rattle.rx_tree.specs.PlainOf.{plain-Expr}
use Rattle.rx_hoist_plan.specs.PlainPlan.{plain-Variable}
use Rattle.rx_hoist_extraction.specs.Plan.{names_of}
use Rattle.rx_hoist_made.proofs.made.with_variables.Given as goal

abbrev pub invariant-loop-out : goal.invariant-loop-out
invariant-loop-out l =
    map plain-Expr l.all ++ map (plain.var l.span) (names_of (map plain-Variable (drop l.out-index l.variables)))
    ≡ map plain-Expr l.fn.exprs ++ map (plain.var l.span) (names_of (map plain-Variable l.variables))
