use Rattle.rx_engine_names.proofs.NoNewCycles.{no_new_cycle}
use Rattle.rx_engine_names.proofs.laws.no_cycles_are_made.Goals as goal

pub returns : goal.returns
returns c = λ p r plan bounds s f there free ts whole typed none. no_new_cycle p r plan bounds s f there free ts whole typed none
