use Rattle.rx_parse.proofs.Whole.{tree_of}
use Rattle.rx_parse.proofs.program.parse.Goals as goal

pub returns-in-Ok-clause-only : goal.returns-in-Ok-clause-only
returns-in-Ok-clause-only c p d = (c.in-Ok.ensures.only p d.height (tree_of c.args.bytes.now p d) d.low).0

pub returns-in-Err-clause-only : goal.returns-in-Err-clause-only
returns-in-Err-clause-only c p d = c.in-Err.ensures.only p d.height (tree_of c.args.bytes.now p d) d.low
