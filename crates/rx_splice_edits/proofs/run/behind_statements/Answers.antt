use Rattle.rx_splice_edits.proofs.Last.{some_last, no_last}
use Rattle.rx_splice_edits.proofs.RunLemmas.{some_end, no_end}
use Rattle.rx_splice_edits.proofs.run.behind_statements.Goals as goal

pub returns-in-Some : goal.returns-in-Some
returns-in-Some c = some_end c.args.at c.args.stmts.now c.in-Some.last.now (some_last c.args.stmts.now c.last.result c.in-Some.last c.last.ensures.value c.in-Some.is)

pub returns-in-None : goal.returns-in-None
returns-in-None c = no_end c.args.at c.args.stmts.now (no_last c.args.stmts.now c.last.result c.last.ensures.value c.in-None.is)
