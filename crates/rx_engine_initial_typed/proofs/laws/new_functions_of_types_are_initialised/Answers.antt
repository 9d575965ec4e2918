use Rattle.rx_engine_initial_typed.proofs.Functions.{new_function_of_types_initialised}
use Rattle.rx_engine_initial_typed.proofs.laws.new_functions_of_types_are_initialised.Goals as goal

pub returns : goal.returns
returns c = λ r S alike A k had self reached sized sized_there text initialised again modes R Ra Rb es ps ls given same items gain U J q t l all m so v none w end d e nexts never f mb params body there here.
    new_function_of_types_initialised r S alike A k had self reached sized sized_there text initialised given same all m so v none d e nexts never f mb params body there here
