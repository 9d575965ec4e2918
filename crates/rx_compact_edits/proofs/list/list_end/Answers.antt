use Rattle.std.proofs.Common.{arith}
use Rattle.rx_compact_edits.proofs.Ending.{lifetimes_end}
use Rattle.rx_compact_edits.proofs.list.list_end.Goals as goal

pub returns : goal.returns
returns c = lifetimes_end c.args.first.now c.args.rest.now c.loop-lifetime.end c.loop-lifetime.lifetime-index (omega arith) c.loop-lifetime.invariant
