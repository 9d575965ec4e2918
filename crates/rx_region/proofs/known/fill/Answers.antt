use Rattle.rx_graph_bits.specs.Rows.{words}
use Rattle.rx_region.proofs.Knowing.{closed_from, diagonal_regular, regular_empty}
use Rattle.rx_region.proofs.known.fill.Goals as goal

pub close-requires : goal.close-requires
close-requires c = diagonal_regular c.args.count c.args.rows.now c.put_diagonal.new.rows c.requires
    (c.put_diagonal.ensures (words c.args.count) (regular_empty c.args.count c.args.rows.now c.requires))

pub returns : goal.returns
returns c = closed_from c.args.pairs.now c.args.count c.args.rows.now c.put_diagonal.new.rows c.close.new.rows c.requires
    (c.put_diagonal.ensures (words c.args.count) (regular_empty c.args.count c.args.rows.now c.requires)) c.in_ok-close.ensures
