use Rattle.rx_engine_standing.proofs.Passed.{call_settles}
use Rattle.rx_engine_standing.proofs.laws.what_a_call_passes_is_settled.Goals as goal

pub returns : goal.returns
returns c = λ C R apart E q declared f e is p es ds gs asked. call_settles C R apart E q declared f is p es ds gs asked
