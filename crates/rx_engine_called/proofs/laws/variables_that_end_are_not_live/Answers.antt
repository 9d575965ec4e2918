use Rattle.rx_engine_called.proofs.NotLive.{not_live}
use Rattle.rx_engine_called.proofs.laws.variables_that_end_are_not_live.Goals as goal

pub returns : goal.returns
returns c = not_live
