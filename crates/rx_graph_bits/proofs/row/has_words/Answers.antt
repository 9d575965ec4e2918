use Rattle.rx_graph_bits.proofs.RowLemmas.{bounded_both}
use Rattle.rx_graph_bits.proofs.row.has_words.Goals as goal

pub returns : goal.returns
returns c = bounded_both c.args.first c.args.rest.now c.ranges.first.fits (λ i. (c.type_inv.rest i).fits)
