use Rattle.std.proofs.Common.{◌≡◌, drop}
use Rattle.rx_graph_cycles.specs.Marks.{mark_all, with_new}
use Rattle.rx_graph_cycles.proofs.search.find_all.Given as goal

abbrev pub invariant-loop-i : goal.invariant-loop-i
invariant-loop-i l = (mark_all l.seen (drop l.i l.nodes) ≡ mark_all l.fn.seen l.fn.nodes)
    × (with_new l.seen l.work.items (drop l.i l.nodes) ≡ with_new l.fn.seen l.fn.work.items l.fn.nodes)
