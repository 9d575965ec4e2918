use Rattle.rx_engine_made_calls.proofs.Made.{call_made}
use Rattle.rx_engine_made_calls.proofs.laws.calls_for_runs_are_made.Goals as goal

pub returns : goal.returns
returns c = λ E f q G N W items agrees A muts k modes again J R cold hows plans d later y B made p s a fits h tells num fresh few. call_made E f q G N W items agrees A muts k modes again J R cold hows plans p s a fits h tells num fresh few
