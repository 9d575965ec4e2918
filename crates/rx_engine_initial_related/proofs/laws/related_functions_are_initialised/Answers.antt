use Rattle.rx_engine_initial_related.proofs.NewFunctions.{new_function_initialised}
use Rattle.rx_engine_initial_related.proofs.laws.related_functions_are_initialised.Goals as goal

pub returns : goal.returns
returns c = λ S A k had self reached sized sized_there text initialised nexts again modes R Ra Rb es ps ls given types items gain U J q m s v none w zs g have gives f mb mg params body.
    new_function_initialised S A k had self reached sized sized_there text initialised nexts given types m s v none have gives f mb mg params body
