-- By the same induction, where each word of the run stands before what follows it.
use Rattle.rx_splice_laws.proofs.RunSpliced.{run_read}
use Rattle.rx_splice_laws.proofs.laws.spliced_runs_are_read.Goals as goal

pub returns : goal.returns
returns c = λ P pl r text all ts ls ss y h F L d p n g k. run_read P pl r F L text all ts ls ss y h d p n g k
