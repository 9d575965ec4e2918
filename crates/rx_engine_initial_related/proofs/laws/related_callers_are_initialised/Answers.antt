use Rattle.rx_engine_related.specs.Standing.{the_call}
use Rattle.rx_engine_initial_related.proofs.Callers.{caller_initialised}
use Rattle.rx_engine_initial_related.proofs.laws.related_callers_are_initialised.Goals as goal

pub returns : goal.returns
returns c = λ S A k sized sized_there text initialised modes items gain U new special f r types s.
    caller_initialised S A k sized sized_there text initialised items (the_call A S.muts_there k modes items gain U new) gain special f r types s
