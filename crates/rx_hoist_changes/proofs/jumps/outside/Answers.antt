use Rattle.std.proofs.Common.{arith}
use Rattle.rx_hoist_changes.proofs.JumpLemmas.{outside_is, inside_is}
use Rattle.rx_hoist_changes.proofs.jumps.outside.Goals as goal

pub returns-then-number-gt0 : goal.returns-then-number-gt0
returns-then-number-gt0 c = outside_is c.args.number (omega arith)

pub returns-else-number-gt0 : goal.returns-else-number-gt0
returns-else-number-gt0 c = inside_is c.args.number (omega arith)
