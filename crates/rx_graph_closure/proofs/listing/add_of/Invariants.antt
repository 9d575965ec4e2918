use Rattle.std.proofs.Common.{◌≡◌, ◌+◌, ◌-◌, ◌*◌, ◌++◌, ◌&&◌, not}
use Rattle.rx_graph.specs.Tables as tables
use Rattle.rx_graph_closure.specs.Listing as spec
use Rattle.rx_graph_closure.proofs.listing.add_of.Given as goal

abbrev pub invariant-loop-chunk : goal.invariant-loop-chunk
invariant-loop-chunk l = l.pairs ++ spec.pairs_of (λ x k. tables.at l.rows x (l.base + k) && not (tables.at l.others x k)) l.long (l.chunk * 64) (l.count - l.chunk * 64)
    ≡ l.fn.pairs ++ spec.pairs_of (λ x k. tables.at l.fn.rows x (l.fn.base + k) && not (tables.at l.fn.others x k)) l.fn.long 0 l.fn.count
