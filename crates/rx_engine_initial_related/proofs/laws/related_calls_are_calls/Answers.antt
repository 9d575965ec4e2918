use Rattle.rx_engine_initial_related.proofs.Called.{call_stands}
use Rattle.rx_engine_initial_related.proofs.laws.related_calls_are_calls.Goals as goal

pub returns : goal.returns
returns c = λ S A k plan nexts again modes R Ra Rb Rn es ps ls mc i f given so handed asked K g. call_stands S A k plan nexts given so handed asked K g
