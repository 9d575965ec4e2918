use Rattle.std.proofs.Common.{◌<◌}
use Rattle.rx_graph_bits.specs.Rows.{words}
use Rattle.rx_graph_closure.specs.Filling.{HasExactly}
use Rattle.rx_graph_closure.proofs.filling.all_below.Given as goal

abbrev pub invariant-numbers : goal.invariant-numbers
invariant-numbers l = HasExactly (words l.bound) l.row (λ i. i < l.k)
