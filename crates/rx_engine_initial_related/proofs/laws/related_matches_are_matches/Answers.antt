use Rattle.rx_engine_initial_related.proofs.MatchStanding.{match_stands}
use Rattle.rx_engine_initial_related.proofs.laws.related_matches_are_matches.Goals as goal

pub returns : goal.returns
returns c = λ S A k plan again modes R Ra Rb Rn es ps ls mc mm i f J Ji w p e l given so calling only handed asked K g loops t leaving. match_stands S A k plan given so calling only handed asked K g loops t leaving
