use Rattle.std.proofs.Common.{◌+◌, length}
use Rattle.rx_graph_cycles.specs.Marks.{unmarked}
use Rattle.rx_graph_cycles.proofs.Searching.{Searching}
use Rattle.rx_graph_cycles.proofs.search.reaches_itself.Given as goal

abbrev pub invariant-loop-next : goal.invariant-loop-next
invariant-loop-next l = Searching l.edges l.node l.seen l.work.items

abbrev pub decreases-loop-next : goal.decreases-loop-next
decreases-loop-next l = length l.work.items + unmarked l.seen
