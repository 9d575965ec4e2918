use Rattle.std.proofs.Common.{◌≡◌, ◌+◌, ◌-◌, ◌++◌, ◌&&◌, not}
use Rattle.rx_graph.specs.Tables as tables
use Rattle.rx_graph_closure.specs.Listing as spec
use Rattle.rx_graph_closure.proofs.listing.add_each.Given as goal

abbrev pub invariant-loop-short : goal.invariant-loop-short
invariant-loop-short l = l.pairs ++ spec.pairs_of (λ x k. tables.at l.rows x (l.base + k) && not (tables.at l.others x k)) l.long l.short (l.until - l.short)
    ≡ l.fn.pairs ++ spec.pairs_of (λ x k. tables.at l.fn.rows x (l.fn.base + k) && not (tables.at l.fn.others x k)) l.fn.long l.fn.from (l.fn.until - l.fn.from)
