-- The end points so far are added.
use Rattle.rx_region.specs.Solutions.{end}
use Rattle.rx_region.specs.Tables.{sets_of}
use Rattle.rx_cert_sets.specs.Making.{Filled}
use Rattle.rx_cert_sets.proofs.making.mark_ends.Given as goal

abbrev pub invariant-loop-end : goal.invariant-loop-end
invariant-loop-end l = Filled (λ k. sets_of l.regions l.region (end k)) l.sites l.end l.fn.row l.row
