use Rattle.rx_engine_initial.proofs.Forgotten.{not_initialised}
use Rattle.rx_engine_initial.proofs.laws.forgotten_outs_are_unset.Goals as goal

pub returns : goal.returns
returns c = not_initialised
