use Rattle.std.proofs.Common.{◌∙◌}
use Rattle.rx_region.specs.PlainContext.{plain-Given}
use Rattle.rx_region.proofs.Zips.{asks_more}
use Rattle.rx_region.proofs.given.Given.add_sites.Goals as goal

pub loop-site-preserved : goal.loop-site-preserved
loop-site-preserved c =
    rw (c.others-left.ensures)
    (asks_more (plain-Given c.args.self.now) c.args.sites.now c.loop-site.left.now c.loop-site.site-index c.site-item.result c.loop-site.pairs c.add_site.new.pairs
    c.loop-site-test.true c.site-item.is c.in_ok-add_site.ensures ∙ c.loop-site.invariant)
