use Rattle.std.proofs.Common.{◌<◌, ℕ, IsTrue}
use Rattle.rx_typeck_solver.specs.Solver.{Root, class_fine}
use Rattle.rx_typeck_solver.specs.Parents.{rep_of}
use Rattle.rx_typeck_solver.specs.Tabled.{state_of, table_of}
use Rattle.rx_typeck_solver.proofs.last.unclear_class.Given as goal

abbrev pub invariant-loop-node : goal.invariant-loop-node
invariant-loop-node l = (n : ℕ) → n < l.node → Root (table_of l.arena.entries.items l.tables) n → IsTrue (class_fine (state_of l.arena.entries.items l.tables) l.literals (rep_of l.tables.classes.parents.items n))
