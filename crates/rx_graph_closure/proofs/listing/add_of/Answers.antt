use Rattle.std.proofs.Common.{◌+◌, ◌&&◌, not}
use Rattle.rx_graph.specs.Tables.{at}
use Rattle.rx_graph_closure.proofs.Chunks.{chunk_more}
use Rattle.rx_graph_closure.proofs.listing.add_of.Goals as goal

pub loop-chunk-preserved : goal.loop-chunk-preserved
loop-chunk-preserved c = chunk_more (λ l k. at c.args.rows.now l (c.args.base + k) && not (at c.args.others.now l k)) c.args.long c.loop-chunk.chunk c.args.count
    c.loop-chunk.pairs c.add_chunk.new.pairs _ c.loop-chunk-test.true c.in_ok-add_chunk.ensures c.loop-chunk.invariant
