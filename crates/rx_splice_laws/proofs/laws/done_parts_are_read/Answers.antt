-- The run is read with its tail as a statement, and lines that begin otherwise keep its words.
use Rattle.rx_splice_laws.proofs.RunDone.{run_done}
use Rattle.rx_splice_laws.proofs.RunParts.{done_on_lines}
use Rattle.rx_splice_laws.proofs.laws.done_parts_are_read.Goals as goal

pub returns : goal.returns
returns c = λ P pl r text all ts ls ss x h F L d p n i ind l k. done_on_lines P pl r text all ts ls ss x h ind l (run_done P pl r F L text all ts ls ss x h d p n i 0) k
