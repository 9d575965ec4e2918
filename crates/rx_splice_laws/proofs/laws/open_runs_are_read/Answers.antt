-- Its tokens are derived with the last statement as the tail too, and its edits are those of such a run.
use Rattle.rx_splice_laws.proofs.OpenRuns.{open_goes, open_stays}
use Rattle.rx_splice_laws.proofs.laws.open_runs_are_read.Goals as goal

pub returns-clause-tail : goal.returns-clause-tail
returns-clause-tail c = λ P pl r text all ts ls ss h F L d p n f e ind l k. open_goes P pl r F L text all ts ls h d p n ind l ss f e k

pub returns-clause-statement : goal.returns-clause-statement
returns-clause-statement c = λ P pl r text all ts ls ss h F L d p n f e ind l k. open_stays P pl r F L text all ts ls h d p n ind l ss f e k
