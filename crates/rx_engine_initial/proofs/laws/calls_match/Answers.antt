use Rattle.rx_meaning_keeping.proofs.Parts.{parted}
use Rattle.rx_engine_initial.specs.Matching.{is_call}
use Rattle.rx_engine_initial.proofs.Calls.{call_so, closes_so}
use Rattle.rx_engine_initial.proofs.laws.calls_match.Goals as goal

pub returns : goal.returns
returns c = λ S a b R T H K q r s m. is_call (call_so S (parted S.frame a) (parted S.frame_there b) R T H K q r s) (closes_so S (parted S.frame a) R T H K q r s) m
