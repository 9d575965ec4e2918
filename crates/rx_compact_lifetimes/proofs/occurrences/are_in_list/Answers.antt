use Rattle.rx_compact_lifetimes.proofs.Occurring.{lifetime_here, failed, kept}
use Rattle.rx_compact_lifetimes.proofs.occurrences.are_in_list.Goals as goal

pub returns-then-not-is_here : goal.returns-then-not-is_here
returns-then-not-is_here c = failed c.is_here.result _ _ _ c.loop-lifetime.invariant
    (lifetime_here c.args.name.now c.args.lifetimes.now c.loop-lifetime.lifetime-index c.lifetime-item.result c.is_here.result c.loop-lifetime-test.true c.lifetime-item.is c.is_here.ensures)
    c.if-not-is_here.true

pub loop-lifetime-preserved : goal.loop-lifetime-preserved
loop-lifetime-preserved c = kept c.is_here.result _ _ _ c.loop-lifetime.invariant
    (lifetime_here c.args.name.now c.args.lifetimes.now c.loop-lifetime.lifetime-index c.lifetime-item.result c.is_here.result c.loop-lifetime-test.true c.lifetime-item.is c.is_here.ensures)
    c.if-not-is_here.false
