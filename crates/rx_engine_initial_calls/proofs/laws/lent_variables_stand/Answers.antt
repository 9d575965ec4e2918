use Rattle.rx_engine_initial_calls.proofs.TextPlaces.{lent_stands}
use Rattle.rx_engine_initial_calls.proofs.laws.lent_variables_stand.Goals as goal

pub returns : goal.returns
returns c = lent_stands
