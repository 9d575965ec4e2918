use Rattle.rx_meaning_keeping.proofs.Parts.{parted}
use Rattle.rx_engine_initial.specs.Copies.{world}
use Rattle.rx_engine_initial.proofs.Matched.{maps}
use Rattle.rx_engine_initial.proofs.Known.{keeps}
use Rattle.rx_engine_initial.proofs.laws.walks_come_from_walks.Goals as goal

pub returns : goal.returns
returns c = λ S a b i R s q m. maps (world S) (keeps S (parted S.frame a) (parted S.frame_there b) i) R s q m
