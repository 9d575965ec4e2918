use Rattle.std.proofs.Common.{◌+◌, ◌&&◌, not}
use Rattle.rx_graph.specs.Tables.{at}
use Rattle.rx_graph_closure.proofs.Tables.{of_more}
use Rattle.rx_graph_closure.proofs.listing.add_each.Goals as goal

pub loop-short-preserved : goal.loop-short-preserved
loop-short-preserved c = of_more (λ l k. at c.args.rows.now l (c.args.base + k) && not (at c.args.others.now l k)) c.args.long c.loop-short.short c.args.until c.is_wanted.result
    c.loop-short.pairs c.push_if.new.pairs _ c.loop-short-test.true c.is_wanted.ensures c.in_ok-push_if.ensures c.loop-short.invariant
