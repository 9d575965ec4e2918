-- The end points so far, behind the sites.
use Rattle.rx_cert_tables.proofs.Runs.{EndsTo}
use Rattle.rx_cert_tables.proofs.collecting.points.Given as goal

abbrev pub invariant-loop-end : goal.invariant-loop-end
invariant-loop-end l = EndsTo l.row l.sites l.items.items l.end
