-- Lines that begin otherwise keep the words.
use Rattle.rx_splice_laws.proofs.RunParts.{ended_on_lines}
use Rattle.rx_splice_laws.proofs.laws.value_parts_are_read.Goals as goal

pub returns : goal.returns
returns c = λ text ts es want h a ind l k. ended_on_lines text ts es want h ind l a k
