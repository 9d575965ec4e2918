use Rattle.std.proofs.Common.{◌≡◌, drop}
use Rattle.rx_graph_cycles.specs.Marks.{settle_all}
use Rattle.rx_graph_cycles.proofs.settled.settle_all.Given as goal

abbrev pub invariant-loop-i : goal.invariant-loop-i
invariant-loop-i l = settle_all l.edges l.done (drop l.i l.nodes) ≡ settle_all l.fn.edges l.fn.done l.fn.nodes
