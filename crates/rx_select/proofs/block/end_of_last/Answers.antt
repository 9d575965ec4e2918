use Rattle.std.proofs.Common.{sym}
use Rattle.rx_select.proofs.Forms.{ends_at_last}
use Rattle.rx_select.proofs.block.end_of_last.Goals as goal

pub returns-in-Some : goal.returns-in-Some
returns-in-Some c = sym (ends_at_last c.args.at c.args.stmts.now c.in-Some.last.now (sym c.in-Some.ensures.value))
