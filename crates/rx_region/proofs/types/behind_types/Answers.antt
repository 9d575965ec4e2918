use Rattle.rx_region.proofs.Counting.{one_type, all_types}
use Rattle.rx_region.proofs.types.behind_types.Goals as goal

pub loop-k-preserved : goal.loop-k-preserved
loop-k-preserved c = one_type c.args.types.now c.args.least c.loop-k.k c.loop-k.count c.in_ok-count.count c.index-types-k.result c.loop-k-test.true c.index-types-k.is
    c.in_ok-count.ensures.more c.in_ok-count.ensures.within c.loop-k.invariant

pub returns-clause-within : goal.returns-clause-within
returns-clause-within c = all_types c.args.types.now c.args.least c.loop-k.k c.loop-k.count c.loop-k-test.false c.loop-k.invariant
