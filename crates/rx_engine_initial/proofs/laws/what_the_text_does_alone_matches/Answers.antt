use Rattle.rx_meaning_keeping.proofs.Parts.{parted}
use Rattle.rx_engine_initial.specs.Matching.{is_only_old}
use Rattle.rx_engine_initial.proofs.PassedOver.{passed_over}
use Rattle.rx_engine_initial.proofs.laws.what_the_text_does_alone_matches.Goals as goal

pub returns : goal.returns
returns c = λ S a b R s q r l e f m. is_only_old (passed_over S (parted S.frame a) (parted S.frame_there b) R q l e f) m
