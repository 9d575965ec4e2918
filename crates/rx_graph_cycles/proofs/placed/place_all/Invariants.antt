use Rattle.std.proofs.Common.{◌≡◌, drop}
use Rattle.rx_graph_cycles.specs.Marks.{settle_all, with_all_settled}
use Rattle.rx_graph_cycles.proofs.placed.place_all.Given as goal

abbrev pub invariant-loop-i : goal.invariant-loop-i
invariant-loop-i l = record {
  done : settle_all l.edges l.done (drop l.i l.nodes) ≡ settle_all l.fn.edges l.fn.done l.fn.nodes;
  order : with_all_settled l.edges l.done l.order.items (drop l.i l.nodes)
      ≡ with_all_settled l.fn.edges l.fn.done l.fn.order.items l.fn.nodes;
}
