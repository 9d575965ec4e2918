-- What activations perform, computed: the lists of actions that were written by hand for walks.
use Rattle.std.specs.Prelude.{◌≡◌, refl, ℤ, pos, negsuc, true, false, List, [], ◌∷◌}
use Rattle.std.specs.Fmt.{digits}
use Rattle.rx_core.specs.declared.types.Kind.{Kind}
use Rattle.rx_typed.specs.Tree.{Function}
use Rattle.rx_lower_walks.specs.Actions.{Action}
use Rattle.rx_lower_walks.proofs.Programs.{product_functions, product_main, half_functions, half_half, gate_functions, gate_main, steps_functions, steps_main}
use Rattle.rx_lower_walks.proofs.ProgramsOfTypes.{shapes_functions, shapes_size}
use Rattle.rx_lower_walks.proofs.WalksExamples.{product_actions, half_actions, half_returning, gate_actions, steps_actions, size_actions}
use Rattle.rx_meaning.specs.Values.{Value, number, truth, whole, tagged, pointer, no_value, value_and, new_frame, State}
use Rattle.rx_meaning.specs.Results.{after, bind, result_of}
use Rattle.rx_meaning.specs.Acting.{plainly}
use Rattle.rx_meaning.specs.Patterns.{decided, tested, closed, took, bound, begun}
use Rattle.rx_meaning.specs.Expressions.{Functions, take_turn, passed, returned, with_arguments, activation, value, below_level}
use Rattle.rx_meaning.specs.Telling.{told, telling, told_by}

abbrev from : List Value → List ℤ → State
from M given = record { memory = M; frame = new_frame 0; input = given; turns = 9 }

abbrev performs : Functions → Function → List Value → State → List Action
performs P f vs s = told_by (activation (telling plainly) (below_level (telling plainly) P 9) f vs s)

product_performs : performs product_functions product_main [] (from [] []) ≡ product_actions
unfolding value below_level digits after bind result_of decided tested closed took bound begun take_turn passed returned with_arguments told
product_performs = refl

half_performs : performs half_functions half_half (number Kind.I64 (pos 5) ∷ truth false ∷ []) (from [] []) ≡ half_actions
unfolding value below_level digits after bind result_of decided tested closed took bound begun take_turn passed returned with_arguments told
half_performs = refl

half_returns : performs half_functions half_half (number Kind.I64 (pos 5) ∷ truth true ∷ []) (from [] []) ≡ half_returning
unfolding value below_level digits after bind result_of decided tested closed took bound begun take_turn passed returned with_arguments told
half_returns = refl

gate_performs : performs gate_functions gate_main [] (from [] (negsuc 1 ∷ pos 0 ∷ [])) ≡ gate_actions
unfolding value below_level digits after bind result_of decided tested closed took bound begun take_turn passed returned with_arguments told
gate_performs = refl

steps_perform : performs steps_functions steps_main [] (from [] (pos 13 ∷ [])) ≡ steps_actions
unfolding value below_level digits after bind result_of decided tested closed took bound begun take_turn passed returned with_arguments told
steps_perform = refl

-- Shape::Square(4, (false, 5)), behind the reference that is given
size_performs : performs shapes_functions shapes_size (pointer 0 [] true ∷ [])
    (from (tagged 1 (value_and (number Kind.I64 (pos 4)) (value_and (whole (value_and (truth false) (value_and (number Kind.U8 (pos 5)) no_value))) no_value)) ∷ []) [])
    ≡ size_actions
unfolding value below_level digits after bind result_of decided tested closed took bound begun take_turn passed returned with_arguments told
size_performs = refl
