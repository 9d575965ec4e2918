use Rattle.rx_lower_walks.specs.Orders.{order_body}
use Rattle.rx_engine_related.proofs.Bare.{no_marks}
use Rattle.rx_engine_initial_typed.proofs.Blocks.{run_block_so}
use Rattle.rx_engine_initial_typed.proofs.laws.run_blocks_of_types_are_asked_so.Goals as goal

pub returns : goal.returns
returns c = λ r S alike A k had sure types choice policy modes passed items gain U new special i J N b l s g n d u there here.
    run_block_so r S alike A k had sure types choice policy modes passed l s g n d (no_marks (order_body b n d) u.none) there here
