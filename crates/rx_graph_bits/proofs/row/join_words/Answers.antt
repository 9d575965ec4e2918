use Rattle.rx_graph_bits.proofs.RowLemmas.{none_joined, join_next, all_joined}
use Rattle.rx_graph_bits.proofs.row.join_words.Goals as goal

pub words-init : goal.words-init
words-init c = none_joined c.args.into.now c.args.from.now

pub words-preserved : goal.words-preserved
words-preserved c = join_next c.args.into.now c.args.from.now c.words.into c.words.k c.words.grown c.requires c.words-test.true c.words.invariant

pub returns : goal.returns
returns c = all_joined c.args.into.now c.args.from.now c.words.into c.words.k c.words.grown c.requires c.words-test.false c.words.auto.k-end c.words.invariant
