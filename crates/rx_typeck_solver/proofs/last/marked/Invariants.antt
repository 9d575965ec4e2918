use Rattle.std.proofs.Common.{◌≡◌, ◌<◌, ◌||◌, ℕ, false, drop, length, get_or}
use Rattle.rx_typeck_solver.specs.Solver.{has_literal}
use Rattle.rx_typeck_solver.specs.Tabled.{state_of}
use Rattle.rx_typeck_solver.proofs.last.marked.Given as goal

abbrev pub invariant-loop-node : goal.invariant-loop-node
invariant-loop-node l = (length l.marks.items ≡ length l.tables.classes.parents.items) × ((c : ℕ) → c < length l.tables.classes.parents.items → get_or l.marks.items c false || has_literal (state_of l.arena.entries.items l.tables) (drop l.node-index l.literals) c ≡ has_literal (state_of l.arena.entries.items l.tables) l.fn.literals c)
