use Rattle.rx_engine_names.proofs.FreeRuns.{declared_are_known}
use Rattle.rx_engine_names.proofs.laws.declared_names_are_identifiers.Goals as goal

pub returns : goal.returns
returns c = declared_are_known
