use Rattle.rx_lower.proofs.Trimming.{next_within, next_trimmed}
use Rattle.rx_lower.proofs.trimmed.Goals as goal

pub loop-i-preserved : goal.loop-i-preserved
loop-i-preserved c = record {
  within = next_within c.index-types-i.result c.loop-i.i c.loop-i.count c.last_there-count.result c.loop-i.invariant.within c.last_there-count.ensures;
  same = next_trimmed c.args.types.now c.loop-i.i c.loop-i.count c.last_there-count.result c.index-types-i.result c.loop-i-test.true c.index-types-i.is c.loop-i.invariant.same c.last_there-count.ensures;
}
