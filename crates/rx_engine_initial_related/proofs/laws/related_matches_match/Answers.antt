use Rattle.rx_engine_initial_related.proofs.MatchStanding.{match_matches_run}
use Rattle.rx_engine_initial_related.proofs.laws.related_matches_match.Goals as goal

pub returns : goal.returns
returns c = λ S A k had self reached sized text again modes R Ra Rb Rn es ps ls mc mm i f J Ji w p e l given so calling only handed asked K g loops r.
    match_matches_run S A k had self reached sized text given so calling only handed asked K g loops r
