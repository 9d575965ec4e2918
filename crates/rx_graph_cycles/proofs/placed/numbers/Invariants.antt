use Rattle.std.proofs.Common.{ℕ, ◌<◌}
use Rattle.rx_graph_cycles.specs.Reaches.{IsIn}
use Rattle.rx_graph_cycles.proofs.placed.numbers.Given as goal

abbrev pub invariant-loop-i : goal.invariant-loop-i
invariant-loop-i l = (j : ℕ) → j < l.i → IsIn l.numbers.items j
