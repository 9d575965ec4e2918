use Rattle.rx_hoist_made.proofs.Dropped.{found, passed}
use Rattle.rx_hoist_made.proofs.BoundLemmas.{name_here}
use Rattle.rx_hoist_made.proofs.lifetimes.has_name.Goals as goal

pub returns-then-is_same_name : goal.returns-then-is_same_name
returns-then-is_same_name c = found c.is_same_name.result _ _ _ _ c.loop-lifetime.invariant
    (name_here c.args.name.now c.args.lifetimes.now c.loop-lifetime.lifetime-index c.lifetime-item.result c.loop-lifetime-test.true c.lifetime-item.is)
    c.is_same_name.ensures c.if-is_same_name.true

pub loop-lifetime-preserved : goal.loop-lifetime-preserved
loop-lifetime-preserved c = passed c.is_same_name.result _ _ _ _ c.loop-lifetime.invariant
    (name_here c.args.name.now c.args.lifetimes.now c.loop-lifetime.lifetime-index c.lifetime-item.result c.loop-lifetime-test.true c.lifetime-item.is)
    c.is_same_name.ensures c.if-is_same_name.false
