use Rattle.std.proofs.Common.{length}
use Rattle.rx_graph_bits.specs.Rows.{words}
use Rattle.rx_graph_closure.proofs.Joining.{closed}
use Rattle.rx_graph_closure.proofs.closing.close.Goals as goal

pub returns : goal.returns
returns c = closed c.args.pairs.now (words c.args.bound) (length c.in_ok-scratch.scratch) c.args.rows.now c.settle.new.rows c.in_ok-scratch.ensures.width c.settle.ensures
