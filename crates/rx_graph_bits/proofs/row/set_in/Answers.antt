use Rattle.rx_graph_bits.proofs.RowLemmas.{inserted_first, inserted_rest}
use Rattle.rx_graph_bits.proofs.row.set_in.Goals as goal

pub returns-then-number-lt64 : goal.returns-then-number-lt64
returns-then-number-lt64 c = inserted_first c.args.first.now c.args.rest.now c.args.number c.if-number-lt64.true

pub returns-else-number-lt64 : goal.returns-else-number-lt64
returns-else-number-lt64 c = inserted_rest c.args.first.now c.args.rest.now _ c.args.number c.if-number-lt64.false c.set_bit.ensures
