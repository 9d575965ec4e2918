use Rattle.rx_lower_walks.specs.Orders.{order_body}
use Rattle.rx_engine_related.proofs.Bare.{no_marks}
use Rattle.rx_engine_initial_typed.proofs.Called.{called_in_run_block}
use Rattle.rx_engine_initial_typed.proofs.laws.called_functions_of_types_are_initialised.Goals as goal

pub returns : goal.returns
returns c = λ r S alike A k had self reached sized sized_there text initialised modes items gain U new special i J N b l s n d u there here.
    called_in_run_block r S alike A k had self reached sized sized_there text initialised there here l s n d (no_marks (order_body b n d) u.none)
