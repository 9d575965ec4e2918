use Rattle.rx_engine_initial_typed.proofs.Corresponding.{like_variable}
use Rattle.rx_engine_initial_typed.proofs.laws.variables_of_like_types_are_alike.Goals as goal

pub returns : goal.returns
returns c = like_variable
