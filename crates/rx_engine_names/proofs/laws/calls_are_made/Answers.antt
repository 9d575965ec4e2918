use Rattle.rx_engine_names.proofs.MadeCalls.{call_made}
use Rattle.rx_engine_names.proofs.laws.calls_are_made.Goals as goal

pub returns : goal.returns
returns c = call_made
