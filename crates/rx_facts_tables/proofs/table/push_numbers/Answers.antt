use Rattle.rx_facts_tables.proofs.Effecting.{listed_more, listed_done}
use Rattle.rx_facts_tables.proofs.table.push_numbers.Goals as goal

pub loop-root-preserved : goal.loop-root-preserved
loop-root-preserved c = listed_more c.args.index.now.roots c.requires.once c.args.all.now c.args.roots.now c.loop-root.all c.push_some.new.all c.loop-root.root-index _ c.find.result
    c.loop-root-test.true c.find.ensures c.in_ok-push_some.ensures c.loop-root.invariant

pub returns : goal.returns
returns c = listed_done c.args.index.now.roots c.requires.once c.args.all.now c.args.roots.now c.loop-root.all c.loop-root.root-index c.loop-root-test.false c.loop-root.invariant
