use Rattle.rx_lower_walks.specs.Orders.{order_function}
use Rattle.rx_engine_related.proofs.Bare.{no_marks}
use Rattle.rx_engine_initial_typed.proofs.Extracted.{caller_with_block_initialised}
use Rattle.rx_engine_initial_typed.proofs.laws.extracted_callers_of_types_are_initialised.Goals as goal

pub returns : goal.returns
returns c = λ r S alike A k had self reached sized sized_there text initialised sure types choice policy modes passed there items gain U new special f l same so here bare.
    caller_with_block_initialised r S alike A k had self reached sized sized_there text initialised sure types choice policy modes passed there special f l same so here (no_marks (order_function f) bare.none)
