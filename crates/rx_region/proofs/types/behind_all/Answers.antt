use Rattle.rx_region.proofs.Counting.{all_counted}
use Rattle.rx_region.proofs.types.behind_all.Goals as goal

pub returns-clause-within : goal.returns-clause-within
returns-clause-within c = all_counted c.args.lifetimes.now c.args.least c.loop-k.k c.loop-k.count c.loop-k-test.false c.loop-k.invariant
