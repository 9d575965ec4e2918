use Rattle.std.proofs.Common.{◌++◌, ap, sym, ◌∙◌}
use Rattle.std.proofs.lemmas.List.{append-nil}
use Rattle.rx_graph_closure.proofs.Chunks.{none_added}
use Rattle.rx_graph_closure.proofs.listing.add_chunk.Goals as goal

pub returns-then-has_none : goal.returns-then-has_none
returns-then-has_none c = sym (ap (λ ps. c.args.pairs.now ++ ps) (none_added c.args.rows.now c.args.others.now c.args.base c.args.long c.args.from c.args.until
    (c.has_none.ensures c.if-has_none.true) c.requires) ∙ append-nil c.args.pairs.now)
