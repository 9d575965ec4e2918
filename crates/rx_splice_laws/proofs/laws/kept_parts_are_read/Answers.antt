-- The run is read, and lines that begin otherwise keep its words.
use Rattle.rx_splice_laws.proofs.RunSpliced.{run_read}
use Rattle.rx_splice_laws.proofs.RunParts.{kept_on_lines}
use Rattle.rx_splice_laws.proofs.laws.kept_parts_are_read.Goals as goal

pub returns : goal.returns
returns c = λ P pl r text all ts ls ss y h F L d p n i ind l k. kept_on_lines P pl r text all ts ls ss y h ind l (run_read P pl r F L text all ts ls ss y h d p n i 0) k
