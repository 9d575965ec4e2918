use Rattle.rx_graph_bits.specs.Rows.{words}
use Rattle.rx_graph.specs.Tables.{Empty}
use Rattle.rx_graph_closure.proofs.closing.empty_rows.Given as goal

abbrev pub invariant-rows : goal.invariant-rows
invariant-rows l = Empty l._row (words l.bound) l.all.items
