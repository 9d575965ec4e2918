use Rattle.rx_engine_initial_related.proofs.OtherEnds.{ended_function_initialised}
use Rattle.rx_engine_initial_related.proofs.laws.ended_functions_are_initialised.Goals as goal

pub returns : goal.returns
returns c = λ S A k had self reached sized sized_there text initialised again modes R Ra Rb es ps ls given types items gain U J r q l all m s v none w end d e nexts never f mb params body.
    ended_function_initialised S A k had self reached sized sized_there text initialised given types all m s v none d e nexts never f mb params body
