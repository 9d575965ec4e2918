-- The run is read, and lines that begin otherwise keep its words.
use Rattle.rx_splice_laws.proofs.RunLines.{run_lines}
use Rattle.rx_splice_laws.proofs.laws.run_lines_are_read.Goals as goal

pub returns : goal.returns
returns c = λ P pl r text all ts ls ss y h F L d p n g ind l k. run_lines P pl r F L text all ts ls ss y h d p n g ind l k
