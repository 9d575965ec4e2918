use Rattle.rx_graph_bits.specs.Rows.{words}
use Rattle.rx_compact_known.proofs.Closing.{closed_from, own_regular, regular_empty}
use Rattle.rx_compact_known.proofs.closed.fill.Goals as goal

pub close-requires : goal.close-requires
close-requires c = own_regular c.args.count c.args.rows.now c.insert_each.new.rows c.requires
    (c.insert_each.ensures (words c.args.count) (regular_empty c.args.count c.args.rows.now c.requires))

pub returns : goal.returns
returns c = closed_from c.args.pairs.now c.args.count c.args.rows.now c.insert_each.new.rows c.close.new.rows c.requires
    (c.insert_each.ensures (words c.args.count) (regular_empty c.args.count c.args.rows.now c.requires)) c.in_ok-close.ensures
