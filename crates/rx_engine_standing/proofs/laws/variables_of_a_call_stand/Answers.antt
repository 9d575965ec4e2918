use Rattle.rx_engine_standing.proofs.Behind.{call_variables_stand}
use Rattle.rx_engine_standing.proofs.laws.variables_of_a_call_stand.Goals as goal

pub returns : goal.returns
returns c = λ E f N R follows G I J front run call p x d s items agrees A binds B made fits. call_variables_stand E f N R follows G I J front run call p x d s items agrees A binds B made fits
