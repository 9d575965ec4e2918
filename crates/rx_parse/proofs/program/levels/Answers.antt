use Rattle.std.proofs.Common.{arith}
use Rattle.rx_parse.proofs.program.levels.Goals as goal

pub returns-in-Ok-clause-only : goal.returns-in-Ok-clause-only
returns-in-Ok-clause-only c n x low = let r = c.in-Ok.ensures.only x.0 n x.1 low in omega (arith, r.1, low)
