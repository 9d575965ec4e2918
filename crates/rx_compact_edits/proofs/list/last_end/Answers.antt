use Rattle.std.proofs.Common.{arith}
use Rattle.rx_compact_edits.proofs.Ending.{bounds_end}
use Rattle.rx_compact_edits.proofs.list.last_end.Goals as goal

pub returns : goal.returns
returns c = bounds_end c.args.lifetime.now c.loop-bound.end c.loop-bound.bound-index c.as_slice-bound-items.result.now (omega arith) c.loop-bound.invariant
