use Rattle.rx_hoist_made.proofs.Dropped.{found, passed}
use Rattle.rx_compact_lifetimes.proofs.Joining.{ident_here}
use Rattle.rx_compact_lifetimes.proofs.lists.has_name.Goals as goal

pub returns-then-is_same : goal.returns-then-is_same
returns-then-is_same c = found c.is_same.result _ _ _ _ c.loop-lifetime.invariant
    (ident_here c.args.name.now c.args.lifetimes.now c.loop-lifetime.lifetime-index c.lifetime-item.result c.loop-lifetime-test.true c.lifetime-item.is)
    c.is_same.ensures c.if-is_same.true

pub loop-lifetime-preserved : goal.loop-lifetime-preserved
loop-lifetime-preserved c = passed c.is_same.result _ _ _ _ c.loop-lifetime.invariant
    (ident_here c.args.name.now c.args.lifetimes.now c.loop-lifetime.lifetime-index c.lifetime-item.result c.loop-lifetime-test.true c.lifetime-item.is)
    c.is_same.ensures c.if-is_same.false
