-- The `let` is put before the tail, and its `;` behind.
use Rattle.rx_splice_laws.proofs.ValuedRuns.{let_runs}
use Rattle.rx_splice_laws.proofs.laws.let_runs_are_read.Goals as goal

pub returns : goal.returns
returns c = λ P pl r t y ys text all ts ls ss x h F L f l d p n i k. let_runs P pl r F L t y ys f l text all ts ls ss x h d p n i k
