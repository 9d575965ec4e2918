use Rattle.rx_engine_names.proofs.FreeRuns.{names_are_free}
use Rattle.rx_engine_names.proofs.laws.unused_names_are_free.Goals as goal

pub returns : goal.returns
returns c = names_are_free
