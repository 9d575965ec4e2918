use Rattle.rx_lower_lifetimes.proofs.Finding.{temporary_turn}
use Rattle.rx_lower_lifetimes.proofs.whole.temporaries_of.Goals as goal

pub loop-one-preserved : goal.loop-one-preserved
loop-one-preserved c =
    temporary_turn c.args.held.now c.loop-one.one-index c.one-item.result c.loop-one.all c.push.new.self _ c.loop-one-test.true c.one-item.is c.in_ok-push.ensures.ok c.loop-one.invariant
