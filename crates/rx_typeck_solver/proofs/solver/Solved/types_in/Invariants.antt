use Rattle.std.proofs.Common.{List, Option, drop, ◌++◌}
use Rattle.rx_core.specs.declared.types.Ty.{Ty}
use Rattle.rx_typed.specs.PlainTypes.{declarations}
use Rattle.rx_typeck_solver.specs.Views.{TableTyped, Entered}
use Rattle.rx_typeck_solver.proofs.solver.Solved.types_in.Given as goal

abbrev pub invariant-loop-entry : goal.invariant-loop-entry
invariant-loop-entry l = Entered l.self (drop l.entry-index l.table)
    × ((new : List (Option Ty)) → TableTyped l.self (declarations l.items) (drop l.entry-index l.table) new → TableTyped l.self (declarations l.items) l.fn.table (l.all ++ new))
