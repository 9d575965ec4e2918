use Rattle.rx_meaning_keeping.proofs.Parts.{parted}
use Rattle.rx_engine_initial.proofs.Fates.{fates_kept}
use Rattle.rx_engine_initial.proofs.laws.fates_keep_facts.Goals as goal

pub returns : goal.returns
returns c = λ S a b R T h w us u H f. fates_kept S (parted S.frame a) (parted S.frame_there b) R h w us u H T f
