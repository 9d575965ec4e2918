use Rattle.rx_lower_walks.specs.Orders.{order_body}
use Rattle.rx_engine_related.proofs.Bare.{no_marks}
use Rattle.rx_engine_initial_blocks.proofs.RunBlocks.{run_block_alike}
use Rattle.rx_engine_initial_blocks.proofs.laws.run_blocks_are_alike.Goals as goal

pub returns : goal.returns
returns c = λ S A k had self reached sized text modes items gain U new special i J N b l s m n e d u. run_block_alike S A k had self reached sized text l s m n e d (no_marks (order_body b n.node d) u.none)
