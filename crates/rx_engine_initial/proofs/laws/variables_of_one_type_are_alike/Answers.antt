use Rattle.rx_engine_initial.proofs.Types.{like_variable}
use Rattle.rx_engine_initial.proofs.laws.variables_of_one_type_are_alike.Goals as goal

pub returns : goal.returns
returns c = λ S d s x y t f. like_variable S d s x y t f
