use Rattle.rx_engine_fitting.proofs.KeptTypes.{stays_typed}
use Rattle.rx_engine_fitting.proofs.laws.functions_that_stay_keep_their_types.Goals as goal

pub returns : goal.returns
returns c = stays_typed c.demands_are_orderly.ensures
