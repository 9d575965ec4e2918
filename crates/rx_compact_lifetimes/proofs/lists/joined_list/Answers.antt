use Rattle.std.proofs.Common.{◌∙◌}
use Rattle.rx_compact_lifetimes.proofs.Joining.{next_joined}
use Rattle.rx_compact_lifetimes.proofs.lists.joined_list.Goals as goal

pub loop-lifetime-preserved : goal.loop-lifetime-preserved
loop-lifetime-preserved c =
    next_joined c.args.lifetimes.now c.loop-lifetime.all c.in_ok-all.all c.loop-lifetime.lifetime-index c.lifetime-item.result
    c.loop-lifetime-test.true c.lifetime-item.is c.in_ok-all.ensures ∙ c.loop-lifetime.invariant
