-- By induction on the derivation of the statements, and on the edits.
use Rattle.rx_splice_laws.proofs.RunSpliced.{run_spliced}
use Rattle.rx_splice_laws.proofs.laws.runs_are_spliced.Goals as goal

pub returns : goal.returns
returns c = λ P pl r text all ts ls ss o h F L d p n g. run_spliced P pl r F L text all ts ls ss o h d p n g
