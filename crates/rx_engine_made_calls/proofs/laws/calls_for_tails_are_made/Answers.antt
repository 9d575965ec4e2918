use Rattle.rx_engine_made_calls.proofs.Made.{tail_made}
use Rattle.rx_engine_made_calls.proofs.laws.calls_for_tails_are_made.Goals as goal

pub returns : goal.returns
returns c = λ E f q G N W items agrees A muts k modes again J R cold hows has plans d later y o B b made n p r s value a t fits h tells num end fresh few. tail_made E f q G N W items agrees A muts k modes again J R cold hows has plans n p r s value a t fits h tells num end fresh few
