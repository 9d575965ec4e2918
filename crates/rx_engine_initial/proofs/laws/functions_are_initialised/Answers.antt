use Rattle.rx_meaning_keeping.proofs.Parts.{parted}
use Rattle.rx_engine_initial.proofs.Functions.{initialised_so}
use Rattle.rx_engine_initial.proofs.laws.functions_are_initialised.Goals as goal

pub returns : goal.returns
returns c = λ S a b i R e f q w r m. initialised_so S (parted S.frame a) (parted S.frame_there b) i R e f q w r m
