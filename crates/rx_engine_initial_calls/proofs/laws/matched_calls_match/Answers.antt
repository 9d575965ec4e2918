use Rattle.rx_meaning_keeping.proofs.Parts.{parted}
use Rattle.rx_engine_initial_calls.proofs.Calls.{match_matches}
use Rattle.rx_engine_initial_calls.proofs.laws.matched_calls_match.Goals as goal

pub returns : goal.returns
returns c = λ A k plan S a acc o whole passed R T H K q r h ways f m. match_matches A k plan S acc o whole passed (parted S.frame a) R T H K q r h ways f m
