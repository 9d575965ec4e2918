use Rattle.std.proofs.Common.{◌∙◌, ap}
use Rattle.std.specs.Prelude.{not}
use Rattle.rx_tree.specs.PlainOf.{plain-Func}
use Rattle.rx_hoist_extraction.specs.OwnLifetimes.{idents}
use Rattle.rx_compact_lifetimes.specs.Elided.{stays}
use Rattle.rx_compact_lifetimes.proofs.Choosing.{next_chosen}
use Rattle.rx_compact_lifetimes.proofs.eliding.kept.Goals as goal

pub loop-lifetime-preserved : goal.loop-lifetime-preserved
loop-lifetime-preserved c =
    next_chosen (stays c.args.single (idents c.args.body.now) (plain-Func c.args.function.now)) c.args.lifetimes.now c.loop-lifetime.all c.in_ok-all.all
    c.loop-lifetime.lifetime-index c.lifetime-item.result (not c.may_go-goes.result) c.loop-lifetime-test.true c.lifetime-item.is (ap not c.may_go-goes.ensures) c.in_ok-all.ensures ∙ c.loop-lifetime.invariant
