use Rattle.std.proofs.Common.{◌≡◌, ◌<◌, ℕ, get_or}
use Rattle.rx_typeck_solver.specs.Parents.{rep_of}
use Rattle.rx_typeck_solver.proofs.Parenthood.{Finding}
use Rattle.rx_typeck_solver.proofs.classes.flatten.Given as goal

abbrev pub invariant-loop-node : goal.invariant-loop-node
invariant-loop-node l = Finding l.fn.parents.items l.parents.items × ((z : ℕ) → z < l.node → get_or l.parents.items z z ≡ rep_of l.fn.parents.items z)
