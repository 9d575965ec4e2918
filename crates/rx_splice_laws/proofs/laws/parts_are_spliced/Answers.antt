-- By induction on the edits.
use Rattle.rx_splice_laws.proofs.Splicing.{spliced-append}
use Rattle.rx_splice_laws.proofs.laws.parts_are_spliced.Goals as goal

pub returns : goal.returns
returns c = λ at mid to t u es fs m o p. spliced-append at mid to t u es fs m o p
