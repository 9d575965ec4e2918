use Rattle.rx_engine_initial.proofs.Entries.{param_entered, local_entered}
use Rattle.rx_engine_initial.proofs.laws.entries_match.Goals as goal

pub returns : goal.returns
returns c = record { params = param_entered; locals = local_entered }
