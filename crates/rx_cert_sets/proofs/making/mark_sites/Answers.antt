-- The next site is added, if it is held.
use Rattle.rx_region.specs.Solutions.{site}
use Rattle.rx_region.specs.Tables.{sets_of}
use Rattle.rx_cert_sets.proofs.Filled.{filled_next}
use Rattle.rx_cert_sets.proofs.making.mark_sites.Goals as goal

pub loop-site-preserved : goal.loop-site-preserved
loop-site-preserved c =
    filled_next (λ p. sets_of c.args.regions.now c.args.region (site p)) c.loop-site.site c.args.row.now c.loop-site.row c.mark.new.row c.holds.result c.holds.ensures
    c.loop-site.invariant c.mark.ensures
