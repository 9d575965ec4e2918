use Rattle.rx_lower_walks.specs.PlainFlow.{plain-Act}
use Rattle.rx_facts_tables.specs.Wholes.{regains}
use Rattle.rx_facts_tables.proofs.Numbers.{next_picked, all_picked}
use Rattle.rx_facts_tables.proofs.acts.regained.Goals as goal

pub loop-k-preserved : goal.loop-k-preserved
loop-k-preserved c = next_picked c.regains.result c.loop-k.all c.push_where.new.all (λ q. regains q.var q.steps (plain-Act c.args.act.now)) c.args.watched.now c.loop-k.k c.index-watched-k.result
    c.loop-k-test.true c.index-watched-k.is c.regains.ensures c.in_ok-push_where.ensures c.loop-k.invariant

pub returns : goal.returns
returns c = all_picked c.loop-k.all (λ q. regains q.var q.steps (plain-Act c.args.act.now)) c.args.watched.now c.loop-k.k c.loop-k-test.false c.loop-k.invariant
