use Rattle.rx_hoist_made.proofs.Dropped.{found, passed}
use Rattle.rx_compact_lifetimes.proofs.Occurring.{bound_here}
use Rattle.rx_compact_lifetimes.proofs.occurrences.is_in_bounds.Goals as goal

pub returns-then-bounds_name : goal.returns-then-bounds_name
returns-then-bounds_name c = found c.bounds_name.result _ _ _ _ c.loop-lifetime.invariant
    (bound_here c.args.name.now c.args.lifetimes.now c.loop-lifetime.lifetime-index c.lifetime-item.result c.loop-lifetime-test.true c.lifetime-item.is)
    c.bounds_name.ensures c.if-bounds_name.true

pub loop-lifetime-preserved : goal.loop-lifetime-preserved
loop-lifetime-preserved c = passed c.bounds_name.result _ _ _ _ c.loop-lifetime.invariant
    (bound_here c.args.name.now c.args.lifetimes.now c.loop-lifetime.lifetime-index c.lifetime-item.result c.loop-lifetime-test.true c.lifetime-item.is)
    c.bounds_name.ensures c.if-bounds_name.false
