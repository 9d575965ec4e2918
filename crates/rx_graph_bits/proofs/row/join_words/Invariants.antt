use Rattle.rx_graph_bits.proofs.RowLemmas.{JoinedTo}
use Rattle.rx_graph_bits.proofs.row.join_words.Given as goal

abbrev pub invariant-words : goal.invariant-words
invariant-words l = JoinedTo l.fn.into l.from l.into l.k l.grown
