-- By induction on how the text is read.
use Rattle.rx_splice_laws.proofs.Reindented.{reindented_again}
use Rattle.rx_splice_laws.proofs.laws.lines_begin_otherwise.Goals as goal

pub returns : goal.returns
returns c = λ ind t k ts l d at. reindented_again ind t k ts l d at
