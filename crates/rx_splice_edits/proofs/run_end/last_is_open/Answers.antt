use Rattle.std.proofs.Common.{◌∙◌, arith}
use Rattle.rx_splice_edits.proofs.EndLemmas.{last_open}
use Rattle.rx_splice_edits.proofs.run_end.last_is_open.Goals as goal

pub returns-in-len1-up : goal.returns-in-len1-up
returns-in-len1-up c = c.is_open.ensures ∙ last_open c.args.stmts.now _ _ (omega arith) c.last-item.is
