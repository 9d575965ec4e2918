use Rattle.rx_engine_related.specs.Standing.{the_call}
use Rattle.rx_engine_initial_typed.proofs.Functions.{caller_of_types_initialised}
use Rattle.rx_engine_initial_typed.proofs.laws.callers_of_types_are_initialised.Goals as goal

pub returns : goal.returns
returns c = λ r S alike A k sized sized_there text initialised modes items gain U new special f l same so there here.
    caller_of_types_initialised r S alike A k sized sized_there text initialised items (the_call A S.muts_there k modes items gain U new) gain special f l same so there here
