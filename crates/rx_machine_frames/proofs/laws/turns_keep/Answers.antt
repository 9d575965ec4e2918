use Rattle.rx_machine_frames.proofs.StepLemmas.{turn_keeps}
use Rattle.rx_machine_frames.proofs.laws.turns_keep.Goals as goal

pub returns : goal.returns
returns c = λ P n K x s l. turn_keeps P n K x s l
