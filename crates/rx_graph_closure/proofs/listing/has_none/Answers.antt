use Rattle.std.proofs.Common.{[]}
use Rattle.rx_graph_closure.proofs.Chunks.{none_held}
use Rattle.rx_graph_closure.proofs.listing.has_none.Goals as goal

pub returns-then-word-eq0 : goal.returns-then-word-eq0
returns-then-word-eq0 c = none_held c.args.rows.now c.in-Some.row.now c.args.base c.args.member c.args.from c.word.result c.word-then-word-eq0.result
    (c.in-Some.ensures.lookup.3.1 []) c.word.ensures c.word-then-word-eq0.ensures c.if-word-eq0.true
