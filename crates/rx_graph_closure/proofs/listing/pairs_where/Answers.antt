use Rattle.std.proofs.Common.{◌+◌, ◌&&◌, not}
use Rattle.rx_graph.specs.Tables.{at}
use Rattle.rx_graph_closure.proofs.Tables.{from_more}
use Rattle.rx_graph_closure.proofs.listing.pairs_where.Goals as goal

pub loop-long-preserved : goal.loop-long-preserved
loop-long-preserved c = from_more (λ l k. at c.args.rows.now l (c.args.base + k) && not (at c.args.others.now l k)) c.loop-long.long c.args.count
    c.loop-long.pairs c.add_of.new.pairs _ c.loop-long-test.true c.in_ok-add_of.ensures c.loop-long.invariant
