use Rattle.std.proofs.Common.{◌⊎◌, ℕ, IsTrue, drop}
use Rattle.rx_typeck_solver.specs.declared.facts.Subject.TheVariants as subject
use Rattle.rx_typeck_solver.specs.Valid.{IsIn}
use Rattle.rx_typeck_solver.specs.Solver.{literal_fine}
use Rattle.rx_typeck_solver.specs.Tabled.{state_of, table_of}
use Rattle.rx_typeck_solver.proofs.last.unclear_literal.Given as goal

abbrev pub invariant-loop-node : goal.invariant-loop-node
invariant-loop-node l = (n : ℕ) → IsIn n l.fn.literals → IsIn n (drop l.node-index l.literals) ⊎ IsTrue (literal_fine (state_of l.arena.entries.items l.tables) (table_of l.arena.entries.items l.tables (subject.Node n)))
