use Rattle.rx_engine_made_calls.proofs.Begins.{function_begins}
use Rattle.rx_engine_made_calls.proofs.laws.new_functions_begin_in_turn.Goals as goal

pub returns : goal.returns
returns c = λ P V N xs vs ds ys zs ps ls params locals many many2. function_begins ps ls params locals many many2
