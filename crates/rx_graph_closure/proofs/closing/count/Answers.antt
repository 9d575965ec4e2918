use Rattle.rx_graph_closure.proofs.Joining.{one_counted, all_counted}
use Rattle.rx_graph_closure.proofs.closing.count.Goals as goal

pub pairs-preserved : goal.pairs-preserved
pairs-preserved c = one_counted c.args.pairs.now c.args.least c.pairs.k c.pairs.count c.behind_pair-count.result (record { long = 0; short = 0 })
    c.pairs-test.true c.behind_pair-count.ensures.more c.behind_pair-count.ensures.long c.behind_pair-count.ensures.short c.pairs.invariant

pub returns-clause-within : goal.returns-clause-within
returns-clause-within c = all_counted c.args.pairs.now c.args.least c.pairs.k c.pairs.count c.pairs-test.false c.pairs.invariant
