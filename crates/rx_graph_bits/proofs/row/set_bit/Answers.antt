use Rattle.std.proofs.Common.{arith}
use Rattle.rx_graph_bits.proofs.RowLemmas.{inserted}
use Rattle.rx_graph_bits.proofs.row.set_bit.Goals as goal

pub returns-then-number-words : goal.returns-then-number-words
returns-then-number-words c = inserted c.args.words.now c.args.number (omega (arith, c.if-number-words.true))
