use Rattle.std.proofs.Common.{◌≡◌, drop}
use Rattle.rx_graph_cycles.specs.Marks.{full}
use Rattle.rx_graph_cycles.proofs.marks.full.Given as goal

abbrev pub invariant-loop-i : goal.invariant-loop-i
invariant-loop-i l = full (drop l.i l.marks) ≡ full l.fn.marks
