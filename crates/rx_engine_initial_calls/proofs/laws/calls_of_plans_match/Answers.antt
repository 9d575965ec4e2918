use Rattle.rx_meaning_keeping.proofs.Parts.{parted}
use Rattle.rx_engine_initial_calls.proofs.Calls.{call_matches}
use Rattle.rx_engine_initial_calls.proofs.laws.calls_of_plans_match.Goals as goal

pub returns : goal.returns
returns c = λ A k plan S a acc o whole passed ends R T H K q r h u runs g f m. call_matches A k plan S acc o whole passed (parted S.frame a) R T H K q r ends h u runs g f m
