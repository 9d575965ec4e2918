use Rattle.rx_lower_walks.specs.Orders.{order_body}
use Rattle.rx_engine_related.proofs.Bare.{no_marks}
use Rattle.rx_engine_initial_blocks.proofs.NewCalls.{called_in_run_block}
use Rattle.rx_engine_initial_blocks.proofs.laws.called_functions_are_initialised.Goals as goal

pub returns : goal.returns
returns c = λ S A k had self reached sized sized_there text initialised modes items gain U new special i J N b l s n d u.
    called_in_run_block S A k had self reached sized sized_there text initialised l s n d (no_marks (order_body b n d) u.none)
