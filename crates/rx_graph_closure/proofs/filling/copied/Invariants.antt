use Rattle.std.proofs.Common.{◌≡◌, ◌++◌, drop}
use Rattle.rx_graph_closure.proofs.filling.copied.Given as goal

abbrev pub invariant-rows : goal.invariant-rows
invariant-rows l = l.all.items ++ drop l.k l.rows ≡ l.fn.rows
