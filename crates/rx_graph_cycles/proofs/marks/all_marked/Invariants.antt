use Rattle.std.proofs.Common.{◌≡◌, drop}
use Rattle.rx_graph_cycles.specs.Marks.{all_marked}
use Rattle.rx_graph_cycles.proofs.marks.all_marked.Given as goal

abbrev pub invariant-loop-i : goal.invariant-loop-i
invariant-loop-i l = all_marked l.marks (drop l.i l.nodes) ≡ all_marked l.fn.marks l.fn.nodes
