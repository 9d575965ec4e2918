use Rattle.std.proofs.Common.{◌∙◌}
use Rattle.rx_tree.specs.PlainOf.{plain-Func}
use Rattle.rx_hoist_extraction.specs.OwnLifetimes.{idents}
use Rattle.rx_compact_lifetimes.specs.Elided.{goes, left_out}
use Rattle.rx_compact_lifetimes.proofs.Choosing.{next_made}
use Rattle.rx_compact_lifetimes.proofs.eliding.elisions.Goals as goal

pub loop-lifetime-preserved : goal.loop-lifetime-preserved
loop-lifetime-preserved c =
    next_made left_out (goes c.args.single (idents c.args.body.now) (plain-Func c.args.function.now)) c.args.lifetimes.now c.loop-lifetime.all c.in_ok-all.all
    c.loop-lifetime.lifetime-index c.lifetime-item.result c.may_go-goes.result c.loop-lifetime-test.true c.lifetime-item.is c.may_go-goes.ensures c.in_ok-all.ensures ∙ c.loop-lifetime.invariant
