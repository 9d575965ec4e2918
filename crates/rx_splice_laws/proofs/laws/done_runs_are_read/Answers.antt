-- The `;` stands behind the edits of the run, and makes a statement of the tail.
use Rattle.rx_splice_laws.proofs.RunDone.{run_done}
use Rattle.rx_splice_laws.proofs.laws.done_runs_are_read.Goals as goal

pub returns : goal.returns
returns c = λ P pl r text all ts ls ss x h F L d p n g k. run_done P pl r F L text all ts ls ss x h d p n g k
