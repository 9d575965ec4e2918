-- The sites so far are added.
use Rattle.rx_region.specs.Solutions.{site}
use Rattle.rx_region.specs.Tables.{sets_of}
use Rattle.rx_cert_sets.specs.Making.{Filled}
use Rattle.rx_cert_sets.proofs.making.mark_sites.Given as goal

abbrev pub invariant-loop-site : goal.invariant-loop-site
invariant-loop-site l = Filled (λ p. sets_of l.regions l.region (site p)) 0 l.site l.fn.row l.row
