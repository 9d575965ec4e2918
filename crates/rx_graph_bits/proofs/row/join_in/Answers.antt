use Rattle.rx_graph_bits.proofs.RowLemmas.{joined_both}
use Rattle.rx_graph_bits.proofs.row.join_in.Goals as goal

pub returns : goal.returns
returns c = joined_both c.args.first.now c.args.other c.args.rest.now c.args.others.now _ _ c.join_words.ensures
