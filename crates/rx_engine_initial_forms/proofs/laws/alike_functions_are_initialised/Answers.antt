use Rattle.rx_meaning_keeping.proofs.Parts.{parted}
use Rattle.rx_engine_initial_forms.proofs.Forms.{alike_initialised}
use Rattle.rx_engine_initial_forms.proofs.laws.alike_functions_are_initialised.Goals as goal

pub returns : goal.returns
returns c = λ S a b i f h. alike_initialised S (parted S.frame a) (parted S.frame_there b) i f h
