use Rattle.rx_engine_initial_related.proofs.Standing.{call_matches_run}
use Rattle.rx_engine_initial_related.proofs.laws.related_calls_match.Goals as goal

pub returns : goal.returns
returns c = λ S A k had reached sized text nexts again modes R Ra Rb Rn es ps ls mc i f given so handed asked K g. call_matches_run S A k had reached sized text nexts given so handed asked K g
