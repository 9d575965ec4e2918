use Rattle.std.proofs.Common.{◌≡◌, ◌+◌, ◌-◌, ◌++◌, ◌&&◌, not}
use Rattle.rx_graph.specs.Tables as tables
use Rattle.rx_graph_closure.specs.Listing as spec
use Rattle.rx_graph_closure.proofs.listing.pairs_where.Given as goal

abbrev pub invariant-loop-long : goal.invariant-loop-long
invariant-loop-long l = l.pairs ++ spec.pairs_from (λ x k. tables.at l.rows x (l.base + k) && not (tables.at l.others x k)) l.count l.long (l.count - l.long)
    ≡ spec.pairs_below (λ x k. tables.at l.fn.rows x (l.fn.base + k) && not (tables.at l.fn.others x k)) l.fn.count
